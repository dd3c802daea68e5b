-- Document 01's worked flights, computed on the definitions.
pub mod Flights
