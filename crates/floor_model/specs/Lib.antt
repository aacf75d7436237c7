pub mod Floor
pub mod History
pub mod Law
pub mod Printed
