-- The addresses that are told to be a form are exactly those that some peer has.
use Rattle.std.proofs.Common.{◌≡◌, ℕ, zero, suc, ◌+◌, ◌<◌, ◌≤◌, Bool, true, false, not, ◌==◌, ◌||◌, ◌&&◌, nat_lt, nat_le, List, [], ◌∷◌, ◌++◌, map, length, get_or, drop, All, Option, None, Some, refl, sym, ap, subst, ◌∙◌, arith, inl, inr, append_assoc, length-drop}
use Rattle.std.specs.Prelude.{Contains, codes, nat_eq}
use Rattle.std.specs.Char.{to_ascii_lowercase}
use Rattle.std.specs.List.{ends_with}
use Rattle.std.specs.Net.Grammar.{IsDotted}
use Rattle.std.specs.Net.Text.{ipv4_text}
use Rattle.std.proofs.NetLemmas.Texts.{IsDotted-ipv4_text}
use Rattle.std.proofs.lemmas.Bool.{and_from, and_parts, eqb-true, leb-true, ltb-true, lt-ltb, le-leb, not-true, not_from_false, or_cases, or_from, or_left, or_parts, or_right}
use Rattle.std.proofs.lemmas.List.Elements.{All-nil, All-cons, All-append, All-map, All-weaker, All-contains, Contains-append_left, Contains-append_right}
use Rattle.std.proofs.lemmas.List.Folds.{list_any-append}
use Rattle.rule_lines.proofs.FoldLemmas.{length-folded}
use Rattle.rule_lookup.specs.Lines.{has_byte}
use Rattle.rule_lookup.specs.Spread.{folded}
use Rattle.rule_lookup.specs.Forms.{any_host, dotted_ends, dotted_fronts, forms_of, host_alone, host_ends, plain_forms, user_at_address, user_at_host}
use Rattle.rule_lookup.specs.Peers.{Client, HasNames, fits, is_peer_name}
use Rattle.rule_warnings.proofs.CaseLemmas.{IsLow, behind_equals, folded-append, folded-low, folded_from_no_capitals, has_capitals, has_capitals-folded, has_zero-folded, low-cons, low_from_no_capitals}
use Rattle.rule_warnings.proofs.FrontLemmas.{Contains-map, EndsWithDot, IsTame, IsTameEnd, IsTameFront, ends_of, ends_with_dot, front_of, fronts_of, one, tame-drop, tame_whole}
use Rattle.rule_warnings.proofs.WholeLemmas.{Dotted-is_whole, is_whole-IsDotted}
use Rattle.rule_warnings.specs.Clients.{IsPeer, IsSomePeers, has_user_after, is_form, is_front, is_host, is_end, is_plain, is_users, is_whole}

-- ---- each form of a peer is told to be one

abbrev Told : List ℕ → Type 0
Told plain = is_form (folded plain) ≡ true

-- a form that was put into lower case is plain, where it had no zero byte
plain_folded : (plain : List ℕ) → has_byte 0 plain ≡ false → is_plain (folded plain) ≡ true
plain_folded plain none =
    and_from (not (has_byte 0 (folded plain))) (not (has_capitals (folded plain))) (not_from_false _ (has_zero-folded plain ∙ none)) (not_from_false _ (has_capitals-folded plain))

-- the five kinds of a form
abbrev kinds : List ℕ → Bool
kinds address = length address == 0 || is_host address || is_whole address || is_front address || is_users address

told : (plain : List ℕ) → has_byte 0 plain ≡ false → kinds (folded plain) ≡ true → Told plain
told plain none kind = and_from (is_plain (folded plain)) (kinds (folded plain)) (plain_folded plain none) kind

by_host : (address : List ℕ) → is_host address ≡ true → kinds address ≡ true
by_host address host =
    or_left (length address == 0 || is_host address || is_whole address || is_front address) (is_users address)
    (or_left (length address == 0 || is_host address || is_whole address) (is_front address)
    (or_left (length address == 0 || is_host address) (is_whole address) (or_right (length address == 0) (is_host address) host)))

by_whole : (address : List ℕ) → is_whole address ≡ true → kinds address ≡ true
by_whole address whole =
    or_left (length address == 0 || is_host address || is_whole address || is_front address) (is_users address)
    (or_left (length address == 0 || is_host address || is_whole address) (is_front address)
    (or_right (length address == 0 || is_host address) (is_whole address) whole))

by_front : (address : List ℕ) → is_front address ≡ true → kinds address ≡ true
by_front address front =
    or_left (length address == 0 || is_host address || is_whole address || is_front address) (is_users address)
    (or_right (length address == 0 || is_host address || is_whole address) (is_front address) front)

by_users : (address : List ℕ) → is_users address ≡ true → kinds address ≡ true
by_users address users = or_right (length address == 0 || is_host address || is_whole address || is_front address) (is_users address) users

-- a host
host_is : (host : List ℕ) → length host ≤ 255 → is_host (61 ∷ host) ≡ true
host_is host short = le-leb (length host) 255 short

tame_equals : (host : List ℕ) → IsTame host → IsTame (61 ∷ host)
tame_equals host tame = record { low = low-cons 61 host refl tame.low; none = tame.none }

told_host : (host : List ℕ) → length host ≤ 255 → IsTame host → Told (61 ∷ host)
told_host host short tame =
    told (61 ∷ host) tame.none (ap kinds (folded-low (61 ∷ host) (tame_equals host tame).low) ∙ by_host (61 ∷ host) (host_is host short))

-- a user at a position
user_before : (n : ℕ) (user end : List ℕ) → 0 < n + length user → n + length user ≤ 255 → is_end end ≡ true → has_user_after n (user ++ 64 ∷ end) ≡ true
user_before n [] end some short is =
    or_left (64 == 64 && nat_lt 0 n && nat_le n 255 && is_end end) (has_user_after (n + 1) end)
    (and_from (64 == 64 && nat_lt 0 n && nat_le n 255) (is_end end) (and_from (64 == 64 && nat_lt 0 n) (nat_le n 255) (lt-ltb 0 n (omega (arith, some))) (le-leb n 255 (omega (arith, short)))) is)
user_before n (b ∷ bs) end some short is =
    or_right (b == 64 && nat_lt 0 n && nat_le n 255 && is_end (bs ++ 64 ∷ end)) (has_user_after (n + 1) (bs ++ 64 ∷ end))
    (user_before (n + 1) bs end (omega (arith, some)) (omega (arith, short)) is)

-- what a name that may be is
pub record IsName (name : List ℕ) : Type 0 where
  pub some : 0 < length name
  pub short : length name ≤ 255
  pub none : has_byte 0 name ≡ false

name_is : (name : List ℕ) → is_peer_name name ≡ true → IsName name
name_is name may =
    let (sizes, none) = and_parts (nat_lt 0 (length name) && nat_le (length name) 255) (not (has_byte 0 name)) may in
    let (some, short) = and_parts (nat_lt 0 (length name)) (nat_le (length name) 255) sizes in
    record { some = ltb-true 0 (length name) some; short = leb-true (length name) 255 short; none = not-true (has_byte 0 name) none }

name_from : (name : List ℕ) → IsName name → is_peer_name name ≡ true
name_from name is =
    and_from (nat_lt 0 (length name) && nat_le (length name) 255) (not (has_byte 0 name)) (and_from (nat_lt 0 (length name)) (nat_le (length name) 255) (lt-ltb 0 (length name) is.some) (le-leb (length name) 255 is.short)) (not_from_false (has_byte 0 name) is.none)

told_user : (user end : List ℕ) → IsName user → IsTame end → is_end end ≡ true → Told (user ++ 64 ∷ end)
told_user user end name tame is =
    let low : IsLow (64 ∷ end) = low-cons 64 end refl tame.low in
    let long = length-folded user in
    told (user ++ 64 ∷ end) (list_any-append (λ b. b == 0) user (64 ∷ end) ∙ or_from (has_byte 0 user) (has_byte 0 (64 ∷ end)) name.none tame.none)
    (ap kinds (folded-append user (64 ∷ end) low) ∙ by_users (folded user ++ 64 ∷ end) (user_before 0 (folded user) end (omega (arith, long, name.some)) (omega (arith, long, name.short)) is))

-- the host of a peer
some_low : (name other : List ℕ) → Some name ≡ Some other → name ≡ other
some_low name other is = ap (λ (o : Option (List ℕ)). by_option o) is where
  by_option : Option (List ℕ) → List ℕ
  by_option None = []
  by_option (Some name) = name

tame_host : (host : List ℕ) → IsName host → map to_ascii_lowercase host ≡ host → IsTame host
tame_host host name low = record { low = low; none = name.none }

place_host : (host : List ℕ) → IsName host → is_end (61 ∷ host) ≡ true
place_host host name =
    or_right (is_whole (61 ∷ host)) (is_host (61 ∷ host) && nat_lt 1 (length (61 ∷ host)))
    (and_from (is_host (61 ∷ host)) (nat_lt 1 (length (61 ∷ host))) (host_is host name.short) (lt-ltb 1 (length (61 ∷ host)) (omega (arith, name.some))))

-- the forms of a peer with an address, by its names
module _ (ip octets : List ℕ) (dotted : IsDotted ip octets) where
  tame_ip : IsTame ip
  tame_ip = tame_whole ip octets dotted

  whole_ip : is_whole ip ≡ true
  whole_ip = is_whole-IsDotted ip octets dotted

  told_address : Told ip
  told_address = told ip tame_ip.none (ap kinds (folded-low ip tame_ip.low) ∙ by_whole ip whole_ip)

  told_fronts : All Told (dotted_fronts ip)
  told_fronts = All-weaker IsTameFront Told (λ front is. told front is.tame.none (ap kinds (folded-low front is.tame.low) ∙ by_front front is.is_one)) (dotted_fronts ip) (fronts_of ip octets dotted)

  told_users : (info : Option (List ℕ)) → fits info ≡ true → All Told (user_at_address info ip)
  told_users None may = All-nil Told
  told_users (Some user) may =
      All-cons Told (user ++ 64 ∷ ip) [] (told_user user ip (name_is user may) tame_ip (or_left (is_whole ip) (is_host ip && nat_lt 1 (length ip)) whole_ip)) (All-nil Told)

told_at_host : (info host : Option (List ℕ)) → HasNames host info → All Told (user_at_host info host)
told_at_host None host names = All-nil Told
told_at_host (Some user) None names = All-nil Told
told_at_host (Some user) (Some host) names =
    let name = name_is host names.host_fits in
    let tame = tame_host host name (some_low (map to_ascii_lowercase host) host names.lower) in
    All-cons Told (user ++ 64 ∷ 61 ∷ host) [] (told_user user (61 ∷ host) (name_is user names.info_fits) (tame_equals host tame) (place_host host name)) (All-nil Told)

told_hosts : (host : Option (List ℕ)) (info : Option (List ℕ)) → HasNames host info → All Told (host_alone host)
told_hosts None info names = All-nil Told
told_hosts (Some host) info names =
    let name = name_is host names.host_fits in
    let tame = tame_host host name (some_low (map to_ascii_lowercase host) host names.lower) in
    All-cons Told (61 ∷ host) [] (told_host host name.short tame) (All-nil Told)

told_ends : (host : Option (List ℕ)) (info : Option (List ℕ)) → HasNames host info → All Told (host_ends host)
told_ends None info names = All-nil Told
told_ends (Some host) info names =
    let name = name_is host names.host_fits in
    let tame = tame_host host name (some_low (map to_ascii_lowercase host) host names.lower) in
    All-map Told (λ (end : List ℕ). 61 ∷ end) (dotted_ends (drop 1 host))
    (All-weaker (IsTameEnd 255) (λ end. Told (61 ∷ end)) (λ end is. told_host end is.short is.tame) (dotted_ends (drop 1 host)) (ends_of 255 (drop 1 host) (omega (arith, length-drop 1 host, name.short)) (tame-drop 1 host tame)))

told_any : (host : Option (List ℕ)) → All Told (any_host host)
told_any None = All-nil Told
told_any (Some host) = All-cons Told (61 ∷ []) [] refl (All-nil Told)

told_all : (peer : Client) → IsPeer peer → All Told (plain_forms peer)
told_all peer is =
    let ip = ipv4_text peer.ip in
    let dotted = IsDotted-ipv4_text peer.ip is.four is.fits in
    let a = user_at_address peer.info ip in
    let b = user_at_host peer.info peer.host in
    let d = host_alone peer.host in
    let e = dotted_fronts ip in
    let f = host_ends peer.host in
    let g = any_host peer.host in
    All-append Told (a ++ b ++ (ip ∷ []) ++ d ++ e ++ f ++ g) ([] ∷ [])
    (All-append Told (a ++ b ++ (ip ∷ []) ++ d ++ e ++ f) g
    (All-append Told (a ++ b ++ (ip ∷ []) ++ d ++ e) f
    (All-append Told (a ++ b ++ (ip ∷ []) ++ d) e
    (All-append Told (a ++ b ++ (ip ∷ [])) d
    (All-append Told (a ++ b) (ip ∷ [])
    (All-append Told a b (told_users ip peer.ip dotted peer.info is.names.info_fits) (told_at_host peer.info peer.host is.names))
    (All-cons Told ip [] (told_address ip peer.ip dotted) (All-nil Told)))
    (told_hosts peer.host peer.info is.names))
    (told_fronts ip peer.ip dotted))
    (told_ends peer.host peer.info is.names))
    (told_any peer.host))
    (All-cons Told [] [] refl (All-nil Told))

-- so no form of any peer is told to be none
pub no_peer : (address : List ℕ) (peer : Client) → is_form address ≡ false → IsPeer peer → Contains (forms_of peer) address → ⊥
no_peer address peer none is has =
    let form = All-contains (λ form. is_form form ≡ true) (forms_of peer) address (All-map (λ form. is_form form ≡ true) folded (plain_forms peer) (told_all peer is)) has in
    cc

-- ---- and each that is told to be one is a form of some peer

-- a peer with an address
abbrev peer_of : List ℕ → Option (List ℕ) → Option (List ℕ) → Client
peer_of ip host info = record { ip = ip; port = 0; host = host; info = info }

peer_is : (ip text : List ℕ) (host info : Option (List ℕ)) → IsDotted text ip → HasNames host info → IsPeer (peer_of ip host info)
peer_is ip text host info h names =
    let (fits_a, fits_b, fits_c, fits_d) = h.fit in
    record {
      four = ap length h.value;
      fits = λ k. subst (λ (l : List ℕ). get_or l k 0 < 256) (sym h.value) (four_fit h.a h.b h.c h.d fits_a fits_b fits_c fits_d k);
      names = names;
    } where
      four_fit : (a b c d : ℕ) → a < 256 → b < 256 → c < 256 → d < 256 → (k : ℕ) → get_or (a ∷ b ∷ c ∷ d ∷ []) k 0 < 256
      four_fit a b c d fits_a fits_b fits_c fits_d zero = fits_a
      four_fit a b c d fits_a fits_b fits_c fits_d (suc zero) = fits_b
      four_fit a b c d fits_a fits_b fits_c fits_d (suc (suc zero)) = fits_c
      four_fit a b c d fits_a fits_b fits_c fits_d (suc (suc (suc zero))) = fits_d
      four_fit a b c d fits_a fits_b fits_c fits_d (suc (suc (suc (suc k)))) = omega arith

text_is : (text ip : List ℕ) → IsDotted text ip → ipv4_text ip ≡ text
text_is text ip h = ap ipv4_text h.value ∙ sym h.spelled

-- the peer without names
nobody : HasNames None None
nobody = record { host_fits = refl; info_fits = refl; lower = refl }

abbrev some_ip : List ℕ
some_ip = 0 ∷ 0 ∷ 0 ∷ 0 ∷ []

some_dotted : IsDotted (ipv4_text (0 ∷ 0 ∷ 0 ∷ 0 ∷ [])) (0 ∷ 0 ∷ 0 ∷ 0 ∷ [])
some_dotted = record { a = 0; b = 0; c = 0; d = 0; fit = (omega arith, omega arith, omega arith, omega arith); value = refl; spelled = refl }

-- an address that is a form as it is made, and in lower case already
some_peers : (address ip text : List ℕ) (host info : Option (List ℕ)) → IsDotted text ip → HasNames host info → folded address ≡ address → Contains (plain_forms (peer_of ip host info)) address → IsSomePeers address
some_peers address ip text host info dotted names low has = record {
  peer = peer_of ip host info;
  may_be = peer_is ip text host info dotted names;
  has = subst (Contains (forms_of (peer_of ip host info))) low (Contains-map folded (plain_forms (peer_of ip host info)) address has);
}

-- where each kind of form stands among them
module _ (a b c d e f g h : List (List ℕ)) (x : List ℕ) where
  all : List (List ℕ)
  all = a ++ b ++ c ++ d ++ e ++ f ++ g ++ h

  last_kind : Contains h x → Contains (a ++ b ++ c ++ d ++ e ++ f ++ g ++ h) x
  last_kind = Contains-append_right (a ++ b ++ c ++ d ++ e ++ f ++ g) h x

  up_to_g : Contains (a ++ b ++ c ++ d ++ e ++ f ++ g) x → Contains (a ++ b ++ c ++ d ++ e ++ f ++ g ++ h) x
  up_to_g = Contains-append_left (a ++ b ++ c ++ d ++ e ++ f ++ g) h x

  any_kind : Contains g x → Contains (a ++ b ++ c ++ d ++ e ++ f ++ g ++ h) x
  any_kind has = up_to_g (Contains-append_right (a ++ b ++ c ++ d ++ e ++ f) g x has)

  up_to_e : Contains (a ++ b ++ c ++ d ++ e) x → Contains (a ++ b ++ c ++ d ++ e ++ f ++ g ++ h) x
  up_to_e has = up_to_g (Contains-append_left (a ++ b ++ c ++ d ++ e ++ f) g x (Contains-append_left (a ++ b ++ c ++ d ++ e) f x has))

  front_kind : Contains e x → Contains (a ++ b ++ c ++ d ++ e ++ f ++ g ++ h) x
  front_kind has = up_to_e (Contains-append_right (a ++ b ++ c ++ d) e x has)

  up_to_d : Contains (a ++ b ++ c ++ d) x → Contains (a ++ b ++ c ++ d ++ e ++ f ++ g ++ h) x
  up_to_d has = up_to_e (Contains-append_left (a ++ b ++ c ++ d) e x has)

  host_kind : Contains d x → Contains (a ++ b ++ c ++ d ++ e ++ f ++ g ++ h) x
  host_kind has = up_to_d (Contains-append_right (a ++ b ++ c) d x has)

  up_to_c : Contains (a ++ b ++ c) x → Contains (a ++ b ++ c ++ d ++ e ++ f ++ g ++ h) x
  up_to_c has = up_to_d (Contains-append_left (a ++ b ++ c) d x has)

  whole_kind : Contains c x → Contains (a ++ b ++ c ++ d ++ e ++ f ++ g ++ h) x
  whole_kind has = up_to_c (Contains-append_right (a ++ b) c x has)

  user_host_kind : Contains b x → Contains (a ++ b ++ c ++ d ++ e ++ f ++ g ++ h) x
  user_host_kind has = up_to_c (Contains-append_left (a ++ b) c x (Contains-append_right a b x has))

  user_kind : Contains a x → Contains (a ++ b ++ c ++ d ++ e ++ f ++ g ++ h) x
  user_kind has = up_to_c (Contains-append_left (a ++ b) c x (Contains-append_left a b x has))

-- the empty address, and `=`
some_empty : IsSomePeers []
some_empty =
    some_peers [] some_ip (ipv4_text some_ip) None None some_dotted nobody refl
    (last_kind [] [] (ipv4_text some_ip ∷ []) [] (dotted_fronts (ipv4_text some_ip)) [] [] ([] ∷ []) [] (one []))

x_host : HasNames (Some (120 ∷ [])) None
x_host = record { host_fits = refl; info_fits = refl; lower = refl }

some_equals : IsSomePeers (61 ∷ [])
some_equals =
    let ip = ipv4_text some_ip in
    some_peers (61 ∷ []) some_ip ip (Some (120 ∷ [])) None some_dotted x_host refl
    (any_kind [] [] (ip ∷ []) ((61 ∷ 120 ∷ []) ∷ []) (dotted_fronts ip) [] ((61 ∷ []) ∷ []) ([] ∷ []) (61 ∷ []) (one (61 ∷ [])))

-- a host
host_names : (host : List ℕ) (info : Option (List ℕ)) → IsName host → IsLow host → fits info ≡ true → HasNames (Some host) info
host_names host info name low may = record { host_fits = name_from host name; info_fits = may; lower = ap Some low }

some_host : (host : List ℕ) → IsName host → IsLow host → folded (61 ∷ host) ≡ 61 ∷ host → IsSomePeers (61 ∷ host)
some_host host name low same =
    let ip = ipv4_text some_ip in
    some_peers (61 ∷ host) some_ip ip (Some host) None some_dotted (host_names host None name low refl) same
    (host_kind [] [] (ip ∷ []) ((61 ∷ host) ∷ []) (dotted_fronts ip) (host_ends (Some host)) ((61 ∷ []) ∷ []) ([] ∷ []) (61 ∷ host) (one (61 ∷ host)))

-- a whole address
some_whole : (address ip : List ℕ) → IsDotted address ip → folded address ≡ address → IsSomePeers address
some_whole address ip dotted same =
    some_peers address ip address None None dotted nobody same
    (whole_kind [] [] (ipv4_text ip ∷ []) [] (dotted_fronts (ipv4_text ip)) [] [] ([] ∷ []) address (subst (Contains (ipv4_text ip ∷ [])) (text_is address ip dotted) (one (ipv4_text ip))))

-- the front of one
some_front : (address rest ip : List ℕ) → EndsWithDot address → IsDotted (address ++ rest) ip → folded address ≡ address → IsSomePeers address
some_front address rest ip ends dotted same =
    let text = address ++ rest in
    let cut : text ≡ ends.front ++ 46 ∷ rest = ap (λ (l : List ℕ). l ++ rest) ends.is ∙ append_assoc ends.front (46 ∷ []) rest in
    let among : Contains (dotted_fronts text) address = subst (λ (l : List ℕ). Contains (dotted_fronts l) address) (sym cut) (subst (Contains (dotted_fronts (ends.front ++ 46 ∷ rest))) (sym ends.is) (front_of ends.front rest)) in
    some_peers address ip text None None dotted nobody same
    (front_kind [] [] (ipv4_text ip ∷ []) [] (dotted_fronts (ipv4_text ip)) [] [] ([] ∷ []) address (subst (λ (l : List ℕ). Contains (dotted_fronts l) address) (sym (text_is text ip dotted)) among))

-- a user at an address, and at a host
user_fits : (user : List ℕ) → IsName user → fits (Some user) ≡ true
user_fits user name = name_from user name

some_user : (user end ip : List ℕ) → IsName user → IsDotted end ip → folded (user ++ 64 ∷ end) ≡ user ++ 64 ∷ end → IsSomePeers (user ++ 64 ∷ end)
some_user user end ip name dotted same =
    let address = user ++ 64 ∷ end in
    some_peers address ip end None (Some user) dotted (record { host_fits = refl; info_fits = user_fits user name; lower = refl }) same
    (user_kind ((user ++ 64 ∷ ipv4_text ip) ∷ []) [] (ipv4_text ip ∷ []) [] (dotted_fronts (ipv4_text ip)) [] [] ([] ∷ []) address
    (subst (Contains ((user ++ 64 ∷ ipv4_text ip) ∷ [])) (ap (λ (l : List ℕ). user ++ 64 ∷ l) (text_is end ip dotted)) (one (user ++ 64 ∷ ipv4_text ip))))

some_user_host : (user host : List ℕ) → IsName user → IsName host → IsLow host → folded (user ++ 64 ∷ 61 ∷ host) ≡ user ++ 64 ∷ 61 ∷ host → IsSomePeers (user ++ 64 ∷ 61 ∷ host)
some_user_host user host name host_name low same =
    let address = user ++ 64 ∷ 61 ∷ host in
    let ip = ipv4_text some_ip in
    some_peers address some_ip ip (Some host) (Some user) some_dotted (host_names host (Some user) host_name low (user_fits user name)) same
    (user_host_kind ((user ++ 64 ∷ ip) ∷ []) (address ∷ []) (ip ∷ []) ((61 ∷ host) ∷ []) (dotted_fronts ip) (host_ends (Some host)) ((61 ∷ []) ∷ []) ([] ∷ []) address (one address))

-- where a user ends
record UserAt (n : ℕ) (address : List ℕ) : Type 0 where
  user : List ℕ
  end : List ℕ
  is : address ≡ user ++ 64 ∷ end
  some : 0 < n + length user
  short : n + length user ≤ 255
  with_end : is_end end ≡ true

user_at : (n : ℕ) (address : List ℕ) → has_user_after n address ≡ true → UserAt n address
user_at n [] has = absurd (cc)
user_at n (b ∷ bs) has = elim (or_cases (b == 64 && nat_lt 0 n && nat_le n 255 && is_end bs) (has_user_after (n + 1) bs) has) [
  | inl here ↦
      let (sizes, with_end) = and_parts (b == 64 && nat_lt 0 n && nat_le n 255) (is_end bs) here in
      let (some, short) = and_parts (b == 64 && nat_lt 0 n) (nat_le n 255) sizes in
      let (at, more) = and_parts (b == 64) (nat_lt 0 n) some in
      record { user = []; end = bs; is = ap (λ c. c ∷ bs) (eqb-true b 64 at); some = omega (arith, ltb-true 0 n more); short = omega (arith, leb-true n 255 short); with_end = with_end }
  | inr later ↦
      let found = user_at (n + 1) bs later in
      record { user = b ∷ found.user; end = found.end; is = ap (λ (l : List ℕ). b ∷ l) found.is; some = omega arith; short = omega (arith, found.short); with_end = found.with_end }
]

-- an address without zero bytes and without capitals from its first `=` on
record IsPlain (address : List ℕ) : Type 0 where
  same : folded address ≡ address
  none : has_byte 0 address ≡ false
  no_capitals : has_capitals address ≡ false

plain_is : (address : List ℕ) → is_plain address ≡ true → IsPlain address
plain_is address plain =
    let (no_zero, capitals) = and_parts (not (has_byte 0 address)) (not (has_capitals address)) plain in
    let no_capitals = not-true (has_capitals address) capitals in
    record { same = folded_from_no_capitals address no_capitals; none = not-true (has_byte 0 address) no_zero; no_capitals = no_capitals }

by_length : (address : List ℕ) → (length address == 0) ≡ true → IsSomePeers address
by_length [] none = some_empty
by_length (b ∷ bs) none = absurd (omega (arith, eqb-true (suc (length bs)) 0 none))

hosted : (b : ℕ) (host : List ℕ) → b ≡ 61 → length host ≤ 255 → IsPlain (61 ∷ host) → IsSomePeers (61 ∷ host)
hosted b [] is short plain = some_equals
hosted b (c ∷ cs) is short plain =
    some_host (c ∷ cs) (record { some = omega arith; short = short; none = plain.none }) (low_from_no_capitals (c ∷ cs) (behind_equals [] (c ∷ cs) plain.no_capitals)) plain.same

from_host : (address : List ℕ) → is_host address ≡ true → IsPlain address → IsSomePeers address
from_host [] is plain = absurd (cc)
from_host (b ∷ host) is plain =
    let (equals, short) = and_parts (b == 61) (nat_le (length host) 255) is in
    let here = eqb-true b 61 equals in
    subst (λ c. IsSomePeers (c ∷ host)) (sym here) (hosted b host here (leb-true (length host) 255 short) (subst (λ c. IsPlain (c ∷ host)) here plain))

from_whole : (address : List ℕ) → is_whole address ≡ true → IsPlain address → IsSomePeers address
from_whole address is plain = let whole = Dotted-is_whole address is in some_whole address whole.octets whole.dotted plain.same

up_to : (address rest : List ℕ) → EndsWithDot address → is_whole (address ++ rest) ≡ true → IsPlain address → IsSomePeers address
up_to address rest ends is plain = let whole = Dotted-is_whole (address ++ rest) is in some_front address rest whole.octets ends whole.dotted plain.same

from_front : (address : List ℕ) → is_front address ≡ true → IsPlain address → IsSomePeers address
from_front address is plain =
    let one_zero = is_whole (address ++ codes "0") in
    let two_zeros = is_whole (address ++ codes "0.0") in
    let three_zeros = is_whole (address ++ codes "0.0.0") in
    let (dot, whole) = and_parts (ends_with nat_eq address (46 ∷ [])) (one_zero || two_zeros || three_zeros) is in
    let ends = ends_with_dot address dot in
    elim (or_cases (one_zero || two_zeros) three_zeros whole) [
      | inl fewer ↦ elim (or_cases one_zero two_zeros fewer) [ inl one ↦ up_to address (codes "0") ends one plain | inr two ↦ up_to address (codes "0.0") ends two plain ]
      | inr three ↦ up_to address (codes "0.0.0") ends three plain
    ]

with_host : (user end : List ℕ) → IsName user → is_host end ≡ true → 1 < length end → IsPlain (user ++ 64 ∷ end) → IsSomePeers (user ++ 64 ∷ end)
with_host user [] name is some plain = absurd (cc)
with_host user (b ∷ host) name is some plain =
    let (equals, short) = and_parts (b == 61) (nat_le (length host) 255) is in
    let here = eqb-true b 61 equals in
    let moved : user ++ 64 ∷ 61 ∷ host ≡ (user ++ 64 ∷ []) ++ 61 ∷ host = sym (append_assoc user (64 ∷ []) (61 ∷ host)) in
    let there : IsPlain (user ++ 64 ∷ 61 ∷ host) = subst (λ c. IsPlain (user ++ 64 ∷ c ∷ host)) here plain in
    let none = or_parts (has_byte 0 user) (has_byte 0 (64 ∷ 61 ∷ host)) (sym (list_any-append (λ b. b == 0) user (64 ∷ 61 ∷ host)) ∙ there.none) in
    let low = low_from_no_capitals host (behind_equals (user ++ 64 ∷ []) host (ap has_capitals (sym moved) ∙ there.no_capitals)) in
    subst (λ c. IsSomePeers (user ++ 64 ∷ c ∷ host)) (sym here)
    (some_user_host user host name (record { some = omega (arith, some); short = leb-true (length host) 255 short; none = none.1 }) low there.same)

with_end : (user end : List ℕ) → IsName user → is_end end ≡ true → IsPlain (user ++ 64 ∷ end) → IsSomePeers (user ++ 64 ∷ end)
with_end user end name is plain = elim (or_cases (is_whole end) (is_host end && nat_lt 1 (length end)) is) [
  | inl whole ↦ let found = Dotted-is_whole end whole in some_user user end found.octets name found.dotted plain.same
  | inr host ↦ let (one, more) = and_parts (is_host end) (nat_lt 1 (length end)) host in with_host user end name one (ltb-true 1 (length end) more) plain
]

from_users : (address : List ℕ) → is_users address ≡ true → IsPlain address → IsSomePeers address
from_users address is plain =
    let found = user_at 0 address is in
    let there : IsPlain (found.user ++ 64 ∷ found.end) = subst IsPlain found.is plain in
    let none = or_parts (has_byte 0 found.user) (has_byte 0 (64 ∷ found.end)) (sym (list_any-append (λ b. b == 0) found.user (64 ∷ found.end)) ∙ there.none) in
    let name : IsName found.user = record { some = omega (arith, found.some); short = omega (arith, found.short); none = none.0 } in
    subst IsSomePeers (sym found.is) (with_end found.user found.end name found.with_end there)

-- an address that is told to be a form is one of some peer
pub some_peer : (address : List ℕ) → is_form address ≡ true → IsSomePeers address
some_peer address is =
    let (plain_test, kind) = and_parts (is_plain address) (kinds address) is in
    let plain = plain_is address plain_test in
    let empty = length address == 0 in
    let host = is_host address in
    let whole = is_whole address in
    let front = is_front address in
    elim (or_cases (empty || host || whole || front) (is_users address) kind) [
      | inr users ↦ from_users address users plain
      | inl four ↦ elim (or_cases (empty || host || whole) front four) [
        | inr fronted ↦ from_front address fronted plain
        | inl three ↦ elim (or_cases (empty || host) whole three) [
          | inr full ↦ from_whole address full plain
          | inl two ↦ elim (or_cases empty host two) [ inl none ↦ by_length address none | inr named ↦ from_host address named plain ]
        ]
      ]
    ]
