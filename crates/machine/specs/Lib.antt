-- Lowering, the abstract program, the machine that runs it, and compile.
pub mod Check
pub mod Program
pub mod Lower
pub mod Paths
pub mod Machine
pub mod Progress
pub mod Compile
