-- Elements: steps 1 and 2. Attributes, Unserved: step 3.
mod Elements
mod Attributes
mod Unserved
