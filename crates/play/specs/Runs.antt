-- What `core_run` says of a run, and a reader of plays also names: passed on.
pub use Rattle.core_run.specs.Run.{cut_of, medium_words}
pub use Rattle.core_run.specs.Sessions.{ending_of, tolds_of}
pub use Rattle.core_run.specs.Chains.{CarriesOn, MapsCarryOn}
pub use Rattle.core_run.specs.Engines.{all_own}
