-- Laws by which what std's methods ensure tells what the contracts here say.
pub mod Chains
