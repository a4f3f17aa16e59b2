-- Laws that the functions' proofs cite.
pub mod Walking
pub mod ToGo
pub mod Ranking
