pub mod Axioms
pub mod Records
pub mod FormNumbers
pub mod Statements
pub mod Derivations
pub mod Tables
pub mod BestMarks
pub mod Ranks
