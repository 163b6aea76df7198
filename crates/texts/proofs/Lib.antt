pub mod Padded
pub mod ReadBack
