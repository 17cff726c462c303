-- Versions: what the calls answer of bundles of the version before makers.
pub mod Versions
