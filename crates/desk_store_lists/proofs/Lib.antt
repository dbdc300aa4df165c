pub mod Cut
pub mod Forming
pub mod Laying
pub mod Puts
