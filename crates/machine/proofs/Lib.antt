pub mod Laws
pub mod Size
pub mod Valid
pub mod Accepted
pub mod Simulation
pub mod Progress
