-- Laws of the three calls (specs/calls).
pub mod RuleLaws
pub mod CallLaws
pub mod Ways
