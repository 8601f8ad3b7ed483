-- Tasks that release jobs again and again (document 02, Change 1): what their table says, the multiple of their periods, the
-- jobs that they release in it, and the operation that lays these out.
pub mod Tasks
pub mod Multiples
pub mod LaidOut
pub mod Rounds
