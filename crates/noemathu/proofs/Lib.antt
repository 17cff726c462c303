-- Versions: the calls over bundles of the version before makers.
pub mod Versions
