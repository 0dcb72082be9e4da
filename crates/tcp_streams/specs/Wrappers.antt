-- What the line wrappers of a connection's streams do to a text.
use Rattle.std.specs.Prelude.{◌≡◌, ℕ, List, false, map}
use Rattle.tcp_streams.specs.declared.wrappers.Wrapper.{Wrapper}
use Rattle.tcp_streams.specs.declared.wrappers.Wrapper.TheVariants as wrapper
use Rattle.server_words.specs.declared.wrapping.LineWrapperName.{LineWrapperName}
use Rattle.server_words.specs.declared.wrapping.LineWrapperName.TheVariants.{AddCr, DelCr, FixCr}
use Rattle.byte_streams.specs.Chains.{has_failed, wrappers_of}
use Rattle.byte_streams.specs.Wrapped.{added, deleted, fixed}
use Rattle.byte_streams.specs.Wrappers.{deleted_from, fixed_from}
use Rattle.byte_streams.specs.declared.chain.Chain.{Chain}

-- the text that the wrapper of this name writes of a whole text
abbrev pub changed_by : LineWrapperName → List ℕ → List ℕ
changed_by AddCr text = added text
changed_by DelCr text = deleted text
changed_by FixCr text = fixed text

-- what a wrapper will still write, and what it writes of a whole text
abbrev pub rest_of : Wrapper → List ℕ → List ℕ
rest_of (wrapper.AddCr inner) = added
rest_of (wrapper.DelCr inner) = deleted_from inner.held
rest_of (wrapper.FixCr inner) = fixed_from inner.after_cr

abbrev pub whole_of : Wrapper → List ℕ → List ℕ
whole_of (wrapper.AddCr inner) = added
whole_of (wrapper.DelCr inner) = deleted
whole_of (wrapper.FixCr inner) = fixed

-- What the wrappers of a chain write, one after another, is what those of these names do, the first name first. The
-- chain is new: nothing of a text has passed it, and it takes pieces.
pub record IsNewChain (names : List LineWrapperName) (chain : Chain Wrapper) : Type 0 where
  pub of_names : map whole_of (wrappers_of chain) ≡ map changed_by names
  pub at_begin : map rest_of (wrappers_of chain) ≡ map changed_by names
  pub takes : has_failed chain ≡ false
