pub mod Items
pub mod HeadLines
pub mod Parts
pub mod WholeFile
