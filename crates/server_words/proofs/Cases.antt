-- The definitions, evaluated on worked cases.
use Rattle.std.proofs.Common.{◌≡◌, ℕ, ◌==◌, List, [], ◌∷◌, true, false, refl}
use Rattle.std.specs.Prelude.{codes, Option, Some, None, Result, Ok, Err, option_map}
use Rattle.std.specs.Result.{result_ok}
use Rattle.std.specs.List.{slice_split}
use Rattle.std.specs.Str.{chars}
use Rattle.std.specs.Fmt.{digits}
use lib.Utf8.{encode}
use Rattle.server_words.specs.Letters.{meaning_of}
use Rattle.rule_lookup.specs.Addresses.{ipv4_in}
use Rattle.rule_lookup.specs.declared.decision.WhenMissing.TheVariants.{Allow, Deny}
use Rattle.server_words.specs.declared.fault.ServerWordsFault.{ServerWordsFault}
use Rattle.server_words.specs.declared.fault.ServerWordsFault.TheVariants as fault
use Rattle.server_words.specs.declared.level.Level.TheVariants.{Quiet, Errors}
use Rattle.server_words.specs.declared.mode.Mode.{Mode}
use Rattle.server_words.specs.declared.mode.Mode.TheVariants.{HandedOver, Pumped}
use Rattle.server_words.specs.declared.server_options.TheConstants.ConnectionLimits.{DEFAULT}
use Rattle.server_words.specs.declared.wrapping.LineWrapperName.TheVariants.{AddCr, DelCr, FixCr}
use Rattle.server_words.specs.Faults.{fault_text}
use Rattle.server_words.specs.Operands.{address_in, port_in}
use Rattle.server_words.specs.Plans.{ServerPlan, plan_of}
use Rattle.server_words.specs.Wrappings.{wrapping_in}

-- what the words of a line ask for, a space between each two, of a tool whose name says that connections are pumped
plan : List ℕ → Result ServerPlan ServerWordsFault
plan line = plan_of Pumped (slice_split (λ b. b == 32) line)

-- part of what they ask for
part : {A : Type 0} → (ServerPlan → A) → List ℕ → Option A
part f line = option_map f (result_ok (plan line))

-- what is asked for without options
without_options : plan (codes "0 25 cat -v") ≡ Ok (record {
  level = Errors;
  prints_port = false;
  limits = record DEFAULT { connections = 40; per_address = 40; count = None };
  rules = None;
  missing = Deny;
  banner = [];
  hosts = None;
  local = None;
  names_remote = true;
  confirms = false;
  no_delay = false;
  mode = Pumped;
  wrapping = record { records = false; input = []; output = [] };
  service = record { address = 0 ∷ 0 ∷ 0 ∷ 0 ∷ []; port = 25; path = codes "cat"; args = codes "-v" ∷ [] };
})
unfolding plan chars encode meaning_of
without_options = refl

-- the last of options that exclude one another counts
last_level : part (λ p. p.level) (codes "-vQq -- 0 25 cat") ≡ Some Quiet
unfolding part plan chars encode meaning_of
last_level = refl

last_level_of_errors : part (λ p. p.level) (codes "-vQ 0 25 cat") ≡ Some Errors
unfolding part plan chars encode meaning_of
last_level_of_errors = refl

last_name_of_the_other_end : part (λ p. p.names_remote) (codes "-Hh 0 25 cat") ≡ Some true
unfolding part plan chars encode meaning_of
last_name_of_the_other_end = refl

last_confirmation : part (λ p. p.confirms) (codes "-pP 0 25 cat") ≡ Some false
unfolding part plan chars encode meaning_of
last_confirmation = refl

last_delay : part (λ p. p.no_delay) (codes "-dD 0 25 cat") ≡ Some true
unfolding part plan chars encode meaning_of
last_delay = refl

-- the last of `-s` and `-S` counts, and over the tool's name
last_mode : part (λ p. p.mode) (codes "-Ss 0 25 cat") ≡ Some HandedOver
unfolding part plan chars encode meaning_of
last_mode = refl

mode_of_wrappers : part (λ p. p.mode) (codes "-sSwrecordio 0 25 cat") ≡ Some Pumped
unfolding part plan chars encode meaning_of
mode_of_wrappers = refl

handed_over_with_wrappers : plan (codes "-wrecordio -s 0 25 cat") ≡ Err fault.BadWrappers
unfolding plan chars encode meaning_of
handed_over_with_wrappers = refl

-- a tool whose name says that connections are handed over
named : Mode → List ℕ → Option Mode
named by_name line = option_map (λ p. p.mode) (result_ok (plan_of by_name (slice_split (λ b. b == 32) line)))

mode_of_the_name : named HandedOver (codes "0 25 cat") ≡ Some HandedOver
unfolding named chars encode meaning_of
mode_of_the_name = refl

mode_over_the_name : named HandedOver (codes "-S 0 25 cat") ≡ Some Pumped
unfolding named chars encode meaning_of
mode_over_the_name = refl

wrappers_over_the_name : named HandedOver (codes "-waddcr 0 25 cat") ≡ Some Pumped
unfolding named chars encode meaning_of
wrappers_over_the_name = refl

-- a name that is known and empty
empty_name : part (λ p. p.local) (codes "-l  0 25 cat") ≡ Some (Some [])
unfolding part plan chars encode meaning_of
empty_name = refl

-- allowed without a rules file, though none is named
allowed : part (λ p. p.missing) (codes "-X 0 25 cat") ≡ Some Allow
unfolding part plan chars encode meaning_of
allowed = refl

-- numbers
limits : part (λ p. p.limits) (codes "-c7 -k 0003 0 25 cat") ≡ Some (record DEFAULT { connections = 7; per_address = 7; count = Some 3 })
unfolding part plan chars encode meaning_of
limits = refl

limits_of_an_address : part (λ p. p.limits) (codes "-m10000 0 25 cat") ≡ Some (record DEFAULT { connections = 40; per_address = 10000; count = None })
unfolding part plan chars encode meaning_of
limits_of_an_address = refl

-- the first fault counts, in the order of the checks
unknown : plan (codes "-z") ≡ Err (fault.UnknownOption 122)
unfolding plan chars encode meaning_of
unknown = refl

no_value : plan (codes "-c") ≡ Err (fault.NoValue 99)
unfolding plan chars encode meaning_of
no_value = refl

not_in_profile : plan (codes "-c0 -u x") ≡ Err (fault.NotInProfile 117)
unfolding plan chars encode meaning_of
not_in_profile = refl

no_children_of_an_address : plan (codes "-m 0") ≡ Err (fault.BadNumber 109)
unfolding plan chars encode meaning_of
no_children_of_an_address = refl

end_mark_as_a_number : plan (codes "-m0 -c -- 0 25 cat") ≡ Err (fault.BadNumber 99)
unfolding plan chars encode meaning_of
end_mark_as_a_number = refl

count_too_large : plan (codes "-m0 -k4294967296 0 25 cat") ≡ Err (fault.BadNumber 107)
unfolding plan chars encode meaning_of
count_too_large = refl

no_program : plan (codes "-wx 0 25") ≡ Err fault.Usage
unfolding plan chars encode meaning_of
no_program = refl

no_wrappers : plan (codes "-wx 0 25 cat") ≡ Err fault.BadWrappers
unfolding plan chars encode meaning_of
no_wrappers = refl

-- hosts and ports
loopback : address_in (codes "localhost") ≡ Some (127 ∷ 0 ∷ 0 ∷ 1 ∷ [])
loopback = refl

dotted : address_in (codes "10.0.0.255") ≡ Some (10 ∷ 0 ∷ 0 ∷ 255 ∷ [])
unfolding ipv4_in digits encode
dotted = refl

zero_before_a_number : address_in (codes "10.0.0.05") ≡ None
unfolding ipv4_in digits encode
zero_before_a_number = refl

port_with_zeros : port_in (codes "00025") ≡ Some 25
port_with_zeros = refl

port_too_large : port_in (codes "65536") ≡ None
port_too_large = refl

-- wrappers
both_ways : wrapping_in (Some (codes "recordio,addcr,fixcrio,delcr")) ≡ Some (record { records = true; input = FixCr ∷ DelCr ∷ []; output = FixCr ∷ AddCr ∷ [] })
both_ways = refl

recorder_alone : wrapping_in (Some (codes "recordio")) ≡ Some (record { records = true; input = []; output = [] })
recorder_alone = refl

recorder_behind : wrapping_in (Some (codes "addcr,recordio")) ≡ None
recorder_behind = refl

empty_wrapper : wrapping_in (Some []) ≡ None
empty_wrapper = refl

-- what is printed
usage : fault_text fault.Usage ≡ codes "usage: tcpserver [options] host port prog [args]"
usage = refl

bad_number : fault_text (fault.BadNumber 99) ≡ codes "option -c has a bad number"
unfolding encode
bad_number = refl
