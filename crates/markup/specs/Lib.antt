-- Trees: the tree of an element. Markup: how it is written. Writing: what the operation is refused for, answers and leaves.
-- Reader and Namespaces: how XML text is read. ReadingBack: that what is written reads back. Cases: worked cases.
pub mod Trees
pub mod Markup
pub mod Writing
pub mod Reader
pub mod Namespaces
pub mod ReadingBack
pub mod Cases
