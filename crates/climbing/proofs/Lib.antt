-- Elements: the climb to ancestor elements, step by step. Collected: what the climb writes to a path.
pub mod Elements
pub mod Collected
