-- What the energy figure is, in terms of the loads of the intervals.
pub mod Figures
