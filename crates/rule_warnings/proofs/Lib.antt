pub mod CaseLemmas
mod Cases
pub mod ExactLemmas
pub mod FrontLemmas
pub mod LentLemmas
pub mod LineLemmas
pub mod NameLemmas
pub mod ReadLemmas
pub mod ReportLemmas
pub mod SpanLemmas
pub mod StepLemmas
pub mod TableLemmas
pub mod UserLemmas
pub mod WholeLemmas
