-- Laws of the lines.
pub mod AppendedText
mod Decimals
pub mod LineTexts
