pub mod Line
pub mod Machine
pub mod Nest
pub mod Pair
pub mod Printed
