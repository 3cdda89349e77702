pub mod TableProof
