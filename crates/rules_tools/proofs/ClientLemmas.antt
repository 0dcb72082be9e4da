-- The client of what is known of it.
use Rattle.std.proofs.Common.{◌≡◌, ◌⊎◌, ⊎_elim, Bool, true, false, not, cond, ℕ, List, map, refl, sym, ◌∙◌, ap, subst, codes}
use Rattle.std.specs.Prelude.{⊤, Option, None, Some, Result, Ok, Err, IfOk, IfErr, option_map}
use Rattle.std.specs.Option.{ok_or}
use Rattle.std.specs.Borrow.{Bor}
use Rattle.std.specs.Char.{to_ascii_lowercase}
use Rattle.dir_calls.specs.Directory.{Directory}
use Rattle.rule_lookup.specs.Addresses.{ipv4_in}
use Rattle.rule_lookup.specs.Peers.{Client, fits, given, lowered, may_be_name}
use Rattle.rules_tools.specs.Clients.{ClientFails, address_told, client_by, client_of, known}
use Rattle.rules_tools.specs.Told.{FailsToTell}
use Rattle.rules_tools.specs.declared.tcprulescheck.CheckFault.{CheckFault}
use Rattle.rules_tools.specs.declared.tcprulescheck.CheckFault.TheVariants.{BadIp, BadHost, BadInfo, NoFile, Device, ReadFault, Damaged, WriteFault, OutOfMemory}

fits_given : (name : Option (Bor (List ℕ))) → fits (given name) ≡ may_be_name name
fits_given None = refl
fits_given (Some name) = refl

lowered_given : (name : Option (Bor (List ℕ))) → option_map (map to_ascii_lowercase) (given name) ≡ lowered name
lowered_given None = refl
lowered_given (Some name) = refl

module _ (ip : List ℕ) (host info : Option (Bor (List ℕ))) where
  abbrev client : Option (List ℕ) → Client
  client name = record { ip = ip; port = 0; host = name; info = given info }

  -- by whether the names may be names
  abbrev by_tests : Bool → Bool → Result Client CheckFault
  by_tests host_fits info_fits =
      cond (not host_fits) (Err BadHost) (cond (not info_fits) (Err BadInfo) (Ok (client (option_map (map to_ascii_lowercase) (given host)))))

  tested : (host_fits info_fits : Bool) → may_be_name host ≡ host_fits → may_be_name info ≡ info_fits → client_by (Some ip) (given host) (given info) ≡ by_tests host_fits info_fits
  tested host_fits info_fits of_host of_info =
      ap (λ b. by_tests b (fits (given info))) (fits_given host ∙ of_host) ∙ ap (λ b. by_tests host_fits b) (fits_given info ∙ of_info)

  pub named : (peer : Client) → peer ≡ client (lowered host) → may_be_name host ≡ true → may_be_name info ≡ true → client_by (Some ip) (given host) (given info) ≡ Ok peer
  named peer is of_host of_info = tested true true of_host of_info ∙ ap (λ name. Ok (client name)) (lowered_given host) ∙ ap Ok (sym is)

  pub bad_host : may_be_name host ≡ false → client_by (Some ip) (given host) (given info) ≡ Err BadHost
  bad_host of_host = tested false (may_be_name info) of_host refl

  pub bad_info : may_be_name host ≡ true → may_be_name info ≡ false → client_by (Some ip) (given host) (given info) ≡ Err BadInfo
  bad_info of_host of_info = tested true false of_host of_info

-- a variable is wrong
pub fails_as : (value : List ℕ → Option (List ℕ)) (fault : CheckFault) → client_of value ≡ Err fault → ClientFails value fault
fails_as value BadIp is = is
fails_as value BadHost is = is
fails_as value BadInfo is = is
fails_as value NoFile is = is
fails_as value Device is = is
fails_as value ReadFault is = is
fails_as value Damaged is = is
fails_as value WriteFault is = is
fails_as value OutOfMemory is = tt

-- what is told of a client is told by the variables
module _ (value : List ℕ → Option (List ℕ)) (by : Result Client CheckFault) (same : by ≡ client_of value) where
  pub told_peer : (result : Result Client CheckFault) → IfOk result (λ peer. by ≡ Ok peer) → IfOk result (λ peer. client_of value ≡ Ok peer)
  told_peer (Ok peer) told = sym same ∙ told
  told_peer (Err fault) told = tt

  pub refused_peer : (result : Result Client CheckFault) → IfErr result (λ fault. (fault ≡ OutOfMemory) ⊎ (by ≡ Err fault)) → IfErr result (ClientFails value)
  refused_peer (Ok peer) refused = tt
  refused_peer (Err fault) refused = ⊎_elim (λ memory. subst (λ f. ClientFails value f) (sym memory) tt) (λ is. fails_as value fault (sym same ∙ is)) refused

pub same_client : (ip : List ℕ) (address host info known_host known_info : Option (List ℕ)) → address ≡ Some ip → host ≡ known_host → info ≡ known_info
    → client_by (Some ip) host info ≡ client_by address known_host known_info
same_client ip address host info known_host known_info is of_host of_info =
    ap (λ a. client_by a host info) (sym is) ∙ ap (λ h. client_by address h info) of_host ∙ ap (λ i. client_by address known_host i) of_info

-- the address that a text is
pub address_found : (told : Option (List ℕ)) (text : List ℕ) (parsed : Option (List ℕ)) (fault : CheckFault) (result : Result (List ℕ) CheckFault) → Some text ≡ told → parsed ≡ ipv4_in text → result ≡ ok_or parsed fault
    → IfOk result (λ ip. address_told told ≡ Some ip)
address_found told text None fault result of_text of_parsed is = subst (λ (r : Result (List ℕ) CheckFault). IfOk r (λ ip. address_told told ≡ Some ip)) (sym is) tt
address_found told text (Some ip) fault result of_text of_parsed is = subst (λ (r : Result (List ℕ) CheckFault). IfOk r (λ ip. address_told told ≡ Some ip)) (sym is) (ap address_told (sym of_text) ∙ sym of_parsed)

pub address_missed : (told : Option (List ℕ)) (text : List ℕ) (parsed : Option (List ℕ)) (fault : CheckFault) (result : Result (List ℕ) CheckFault) → Some text ≡ told → parsed ≡ ipv4_in text → result ≡ ok_or parsed fault
    → IfErr result (λ fault. fault ≡ BadIp → address_told told ≡ None)
address_missed told text None fault result of_text of_parsed is = subst (λ (r : Result (List ℕ) CheckFault). IfErr r (λ fault. fault ≡ BadIp → address_told told ≡ None)) (sym is) (λ bad. ap address_told (sym of_text) ∙ sym of_parsed)
address_missed told text (Some ip) fault result of_text of_parsed is = subst (λ (r : Result (List ℕ) CheckFault). IfErr r (λ fault. fault ≡ BadIp → address_told told ≡ None)) (sym is) tt

-- only the variables can be wrong there
abbrev IsOfVariables : CheckFault → Type 0
IsOfVariables BadIp = ⊤
IsOfVariables BadHost = ⊤
IsOfVariables BadInfo = ⊤
IsOfVariables fault = ⊥

of_variables : (address host info : Option (List ℕ)) (fault : CheckFault) → client_by address host info ≡ Err fault → IsOfVariables fault
of_variables None host info fault is = let same : BadIp ≡ fault = cc in subst (λ f. IsOfVariables f) same tt
of_variables (Some ip) host info fault is = by (fits host) (fits info) is
  where
    by : (host_fits info_fits : Bool)
        → cond (not host_fits) (Err BadHost) (cond (not info_fits) (Err BadInfo) (Ok (let made : Client = record { ip = ip; port = 0; host = option_map (map to_ascii_lowercase) host; info = info } in made))) ≡ Err fault → IsOfVariables fault
    by false info_fits is = let same : BadHost ≡ fault = cc in subst (λ f. IsOfVariables f) same tt
    by true false is = let same : BadInfo ≡ fault = cc in subst (λ f. IsOfVariables f) same tt
    by true true is = absurd (cc)

other_told : (value : List ℕ → Option (List ℕ)) (fault : CheckFault) → client_of value ≡ Err fault → IsOfVariables fault
other_told value fault is = of_variables (address_told (known (value (codes "TCPREMOTEIP")))) (known (value (codes "TCPREMOTEHOST"))) (known (value (codes "TCPREMOTEINFO"))) fault is

pub fails_to_tell : (value : List ℕ → Option (List ℕ)) (stands : List ℕ → Option Directory) (path : List ℕ) (fault : CheckFault) → ClientFails value fault → FailsToTell value stands path fault
fails_to_tell value stands path BadIp fails = fails
fails_to_tell value stands path BadHost fails = fails
fails_to_tell value stands path BadInfo fails = fails
fails_to_tell value stands path NoFile fails = absurd (other_told value NoFile fails)
fails_to_tell value stands path Device fails = absurd (other_told value Device fails)
fails_to_tell value stands path ReadFault fails = absurd (other_told value ReadFault fails)
fails_to_tell value stands path Damaged fails = absurd (other_told value Damaged fails)
fails_to_tell value stands path WriteFault fails = absurd (other_told value WriteFault fails)
fails_to_tell value stands path OutOfMemory fails = tt
