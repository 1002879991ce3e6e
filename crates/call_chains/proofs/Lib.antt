pub mod MarkLaws
pub mod WalkLaws
pub mod LayerLaws
pub mod NumberLaws
pub mod RuleLaws
