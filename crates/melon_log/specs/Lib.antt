pub mod ServerRows
pub mod Log
pub mod Pulled
pub mod Verdict
pub mod Laws
