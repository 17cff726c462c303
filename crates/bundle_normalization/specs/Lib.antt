-- Small: small bundles.
pub mod Small
