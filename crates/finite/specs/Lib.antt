-- Laws on finite ranges of numbers that every layer above shares. Nothing here knows of floorplans.
pub mod Decide
pub mod Search
pub mod First
pub mod Marks
pub mod Sum
pub mod SumBelow
pub mod Extremes
pub mod Count
pub mod HowMany
pub mod Numbered
pub mod Table
pub mod Fill
pub mod Put
pub mod Copied
pub mod Every
pub mod BitTable
