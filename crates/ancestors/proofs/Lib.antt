-- StartElement: the start element of a row, as the code finds it. Nearest: elements of a table, the nearest ancestor element, and
-- what a path has. Started: a lookup without elements is one without a start element.
pub mod StartElement
pub mod Nearest
pub mod Started
