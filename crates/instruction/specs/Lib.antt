-- One instruction of a program's bytes: what it does, and where the run stands after it.
pub mod Effects
pub mod Progressing
pub mod Common
