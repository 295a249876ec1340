pub mod Verdicting
