-- The definitions that the contracts cite.
pub mod EmphasisStep
pub mod LinkStep
pub mod CloseBy
pub mod ItemStep
pub mod Edges
pub mod Languages
pub mod JoinedWords
pub mod FirstElement
pub mod PreStep
