-- What the operation of this crate writes, as a list of bytes.
pub mod PriceListBytes
