-- Theorems that an edit of a definition breaks, and what they rest on: of the modules that specs/ has too, all but the definitions
pub mod FromPosition
pub mod M105
pub mod Worked
pub mod Sides
pub mod Scope
pub mod Completion
pub mod FirstOne
