pub mod ChainLaws
pub mod CutLaws
pub mod ElementLaws
mod FileLaws
pub mod FormLaws
mod OutcomeLaws
mod PlaceLaws
pub mod ProgramLaws
mod TableLaws
