-- A session in memory, the calls, and the machine.
pub mod Words
pub mod Stored
pub mod Arrays
pub mod Steps
pub mod Hands
pub mod Calls
pub mod Machines
pub mod PlayedLaws
pub mod StoredLaws
pub mod Linked
