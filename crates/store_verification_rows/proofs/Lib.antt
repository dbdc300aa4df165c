pub mod Whole
mod KeyBytes
mod PieceBytes
mod Belonging
