-- What the finder of an open transaction answers, and what the loops look for.
pub mod Opens
pub mod Records
