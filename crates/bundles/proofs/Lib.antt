-- Inverse: reader and writer undo each other. OldRows: rows of ten words and of eleven. Versions: bundles of the version before makers.
-- Words: the numbers of a normalized table fit into words. Demand3: demand 3 over bundles. Calls: that the calls undo each other, and
-- that what is normalized passes the check. Cases: the documents' examples. Opening: what the tests of a bundle's beginning tell, and
-- what is read by the version. Writing: what the writes leave. Over: what an operation answers, once a bundle is open.
pub mod OldRows
pub mod Opening
pub mod Writing
pub mod Over
pub mod Words
pub mod Inverse
pub mod Versions
pub mod Demand3
pub mod Calls
pub mod Cases
