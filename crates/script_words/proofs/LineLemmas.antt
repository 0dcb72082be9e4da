-- The line of a verdict: it is read as what it tells, and what is read was written so.
use Rattle.std.proofs.Common.{◌≡◌, ℕ, ◌^◌, ◌<◌, ◌≤◌, Bool, true, false, ◌==◌, cond, eqb, List, [], ◌∷◌, ◌++◌, All, Option, Some, None, option_map, option_and_then, codes, decimal, refl, sym, ap, subst, ◌∙◌, append_assoc, arith, ne_eqb}
use Rattle.std.specs.List.{join_with_byte}
use Rattle.std.specs.Net.Text.{ipv4_text}
use Rattle.std.specs.Prelude.{IsUtf8}
use Rattle.std.proofs.lemmas.List.{append_cancel_right}
use Rattle.std.proofs.lemmas.List.Elements.{All-append, All-cons, All-weaker}
use Rattle.std.proofs.lemmas.List.Splits.{join_with_byte-slice_split, slice_split_at, slice_split_none}
use Rattle.std.proofs.lemmas.Option.{none-some, option_and_then_some}
use Rattle.std.proofs.lemmas.Str.{IsUtf8-from_ascii}
use Rattle.std.proofs.lemmas.Str.Ascii.{IsAscii-from_all}
use Rattle.std.proofs.NetLemmas.Options.{map_some}
use Rattle.rule_lookup.specs.declared.instr.Verdict.{Verdict}
use Rattle.rule_lookup.specs.declared.instr.Verdict.TheVariants.{Allow, Deny}
use Rattle.rule_lookup.specs.Addresses.{ipv4_in}
use Rattle.rule_lookup.specs.Peers.{Client}
use Rattle.server_log.specs.Lines.{field, local_text, remote_text}
use Rattle.child_jobs.specs.Ends.{LocalEnd}
use Rattle.script_words.specs.LogLines.{Told, Tells, IsEnd, IsLineOf, IsToldWhole, behind, end_at, end_in, fields_of, front_of, is_whole, local_in, number_written, peer_in, peer_with, reading, reading_by, tells_or_not, told_in, told_with, words_of}
use Rattle.script_words.proofs.FieldLemmas.{IsFieldByte, IsFieldOf, address-is, address_bytes, decimal_bytes, field-name_in, field_of, ipv4_in-text, name_in-told, number_written-decimal, number_written-is}
use Rattle.script_words.proofs.FrontLemmas.{behind_front-append, behind_front-is}

greatest_port : 65535 < 2 ^ 64
greatest_port = omega arith

-- ---- what is read was written

-- an end that was read in three fields
record IsReadEnd (host ip port : List ℕ) (end : LocalEnd) : Type 0 where
  is_end : IsEnd end.ip end.port
  told : IsToldWhole end.host
  host_is : host ≡ field end.host
  ip_is : ip ≡ ipv4_text end.ip
  port_is : port ≡ decimal end.port

end_by : (host ip port : List ℕ) (end : LocalEnd) (b : Bool) → is_whole host ≡ b → cond b (option_and_then (λ address. option_map (end_at host address) (number_written 65535 port)) (ipv4_in ip)) None ≡ Some end → IsReadEnd host ip port end
end_by host ip port end false whole e = absurd (none-some end e)
end_by host ip port end true whole e =
    option_and_then_some (λ address. option_map (end_at host address) (number_written 65535 port)) (ipv4_in ip) end e λ address is_address e₁.
    map_some (end_at host address) (number_written 65535 port) end e₁ λ n is_port made.
    let written = address-is ip address is_address in
    let number = number_written-is 65535 n port is_port in
    subst (IsReadEnd host ip port) made (record {
      is_end = record { address = written.address; port_fits = number.1 };
      told = name_in-told host whole;
      host_is = sym (field-name_in host whole);
      ip_is = written.text;
      port_is = sym number.0;
    })

end-read : (host ip port : List ℕ) (end : LocalEnd) → end_in host ip port ≡ Some end → IsReadEnd host ip port end
end-read host ip port end e = end_by host ip port end (is_whole host) refl e

record IsReadLocal (word : List ℕ) (local : LocalEnd) : Type 0 where
  is_end : IsEnd local.ip local.port
  told : IsToldWhole local.host
  text : word ≡ local_text local

local-parts : (parts : List (List ℕ)) (local : LocalEnd) → local_in parts ≡ Some local → IsReadLocal (join_with_byte 58 parts) local
local-parts [] local e = absurd (none-some local e)
local-parts (a ∷ []) local e = absurd (none-some local e)
local-parts (a ∷ b ∷ []) local e = absurd (none-some local e)
local-parts (host ∷ ip ∷ port ∷ []) local e =
    let read = end-read host ip port local e in
    record {
      is_end = read.is_end;
      told = read.told;
      text = rw (read.host_is, read.ip_is, read.port_is) (simp append_assoc);
    }
local-parts (a ∷ b ∷ c ∷ d ∷ more) local e = absurd (none-some local e)

local-read : (word : List ℕ) (local : LocalEnd) → local_in (fields_of word) ≡ Some local → IsReadLocal word local
local-read word local e =
    subst (λ (w : List ℕ). IsReadLocal w local) (join_with_byte-slice_split 58 word) (local-parts (fields_of word) local e)

record IsReadPeer (word : List ℕ) (peer : Client) : Type 0 where
  is_end : IsEnd peer.ip peer.port
  told_host : IsToldWhole peer.host
  told_info : IsToldWhole peer.info
  text : word ≡ remote_text peer

peer-text : (host ip info port : List ℕ) (peer : Client) → host ≡ field peer.host → ip ≡ ipv4_text peer.ip → info ≡ field peer.info → port ≡ decimal peer.port → host ++ (58 ∷ (ip ++ (58 ∷ (info ++ (58 ∷ port))))) ≡ remote_text peer
peer-text host ip info port peer host_is ip_is info_is port_is = rw (host_is, ip_is, info_is, port_is) (simp append_assoc)

peer_by : (host ip info port : List ℕ) (peer : Client) (b : Bool) → is_whole info ≡ b → cond b (option_map (peer_with info) (end_in host ip port)) None ≡ Some peer → IsReadPeer (host ++ (58 ∷ (ip ++ (58 ∷ (info ++ (58 ∷ port)))))) peer
peer_by host ip info port peer false whole e = absurd (none-some peer e)
peer_by host ip info port peer true whole e =
    map_some (peer_with info) (end_in host ip port) peer e λ end is_end made.
    let read = end-read host ip port end is_end in
    subst (IsReadPeer _) made (record {
      is_end = read.is_end;
      told_host = read.told;
      told_info = name_in-told info whole;
      text = peer-text host ip info port (peer_with info end) read.host_is read.ip_is (sym (field-name_in info whole)) read.port_is;
    })

peer-parts : (parts : List (List ℕ)) (peer : Client) → peer_in parts ≡ Some peer → IsReadPeer (join_with_byte 58 parts) peer
peer-parts [] peer e = absurd (none-some peer e)
peer-parts (a ∷ []) peer e = absurd (none-some peer e)
peer-parts (a ∷ b ∷ []) peer e = absurd (none-some peer e)
peer-parts (a ∷ b ∷ c ∷ []) peer e = absurd (none-some peer e)
peer-parts (host ∷ ip ∷ info ∷ port ∷ []) peer e = peer_by host ip info port peer (is_whole info) refl e
peer-parts (a ∷ b ∷ c ∷ d ∷ x ∷ more) peer e = absurd (none-some peer e)

peer-read : (word : List ℕ) (peer : Client) → peer_in (fields_of word) ≡ Some peer → IsReadPeer word peer
peer-read word peer e =
    subst (λ (w : List ℕ). IsReadPeer w peer) (join_with_byte-slice_split 58 word) (peer-parts (fields_of word) peer e)

-- what stands behind the front of a verdict's line
pub record IsWordsOf (told : Told) (words : List ℕ) : Type 0 where
  pub serial_fits : told.serial < 2 ^ 64
  pub local_end : IsEnd told.local.ip told.local.port
  pub peer_end : IsEnd told.peer.ip told.peer.port
  pub local_host : IsToldWhole told.local.host
  pub host : IsToldWhole told.peer.host
  pub info : IsToldWhole told.peer.info
  pub text : words ≡ decimal told.serial ++ (32 ∷ (local_text told.local ++ (32 ∷ remote_text told.peer)))

told-parts : (verdict : Verdict) (parts : List (List ℕ)) (told : Told) → told_in verdict parts ≡ Some told → IsWordsOf told (join_with_byte 32 parts) × (told.verdict ≡ verdict)
told-parts verdict [] told e = absurd (none-some told e)
told-parts verdict (a ∷ []) told e = absurd (none-some told e)
told-parts verdict (a ∷ b ∷ []) told e = absurd (none-some told e)
told-parts verdict (serial ∷ local ∷ peer ∷ []) told e =
    option_and_then_some (λ n. option_and_then (λ l. option_map (told_with verdict n l) (peer_in (fields_of peer))) (local_in (fields_of local))) (number_written 18446744073709551615 serial) told e λ n is_serial e₁.
    option_and_then_some (λ l. option_map (told_with verdict n l) (peer_in (fields_of peer))) (local_in (fields_of local)) told e₁ λ l is_local e₂.
    map_some (told_with verdict n l) (peer_in (fields_of peer)) told e₂ λ p is_peer made.
    let number = number_written-is 18446744073709551615 n serial is_serial in
    let read_local = local-read local l is_local in
    let read_peer = peer-read peer p is_peer in
    subst (λ (t : Told). IsWordsOf t (serial ++ (32 ∷ (local ++ (32 ∷ peer)))) × (t.verdict ≡ verdict)) made (
      record {
        serial_fits = omega (arith, number.1);
        local_end = read_local.is_end;
        peer_end = read_peer.is_end;
        local_host = read_local.told;
        host = read_peer.told_host;
        info = read_peer.told_info;
        text = rw (sym number.0, read_local.text, read_peer.text);
      },
      refl,
    )
told-parts verdict (a ∷ b ∷ c ∷ d ∷ more) told e = absurd (none-some told e)

pub told-read : (verdict : Verdict) (words : List ℕ) (told : Told) → told_in verdict (words_of words) ≡ Some told → IsWordsOf told words × (told.verdict ≡ verdict)
told-read verdict words told e =
    subst (λ (w : List ℕ). IsWordsOf told w × (told.verdict ≡ verdict)) (join_with_byte-slice_split 32 words) (told-parts verdict (words_of words) told e)

-- the parts of a line, grouped to the right and to the left
whole-text : (front serial local peer : List ℕ) → (front ++ (serial ++ (32 ∷ (local ++ (32 ∷ peer))))) ++ 10 ∷ [] ≡ front ++ serial ++ 32 ∷ [] ++ local ++ 32 ∷ [] ++ peer ++ 10 ∷ []
whole-text front serial local peer = simp append_assoc

line-of_words : (verdict : Verdict) (line words : List ℕ) (told : Told) → line ≡ front_of verdict ++ words → IsWordsOf told words × (told.verdict ≡ verdict) → IsLineOf told line
line-of_words verdict line words told is (read, same) = record {
  serial_fits = read.serial_fits;
  local_end = read.local_end;
  peer_end = read.peer_end;
  local_host = read.local_host;
  host = read.host;
  info = read.info;
  text = ap (λ (l : List ℕ). l ++ codes "\n") (is ∙ ap (λ v. front_of v ++ words) (sym same) ∙ ap (λ (w : List ℕ). front_of told.verdict ++ w) read.text)
      ∙ whole-text (front_of told.verdict) (decimal told.serial) (local_text told.local) (remote_text told.peer);
}

tells-some : (o : Option Told) (told : Told) → tells_or_not o ≡ Tells told → o ≡ Some told
tells-some None told e = absurd (cc)
tells-some (Some t) told e = cc

by_behind : (line : List ℕ) (told : Told) (allowed denied : Option (List ℕ)) → behind Allow line ≡ allowed → behind Deny line ≡ denied → reading_by allowed denied ≡ Tells told → IsLineOf told line
by_behind line told (Some words) denied is_allowed is_denied e =
    line-of_words Allow line words told (behind_front-is (front_of Allow) line words is_allowed) (told-read Allow words told (tells-some _ told e))
by_behind line told None (Some words) is_allowed is_denied e =
    line-of_words Deny line words told (behind_front-is (front_of Deny) line words is_denied) (told-read Deny words told (tells-some _ told e))
by_behind line told None None is_allowed is_denied e = absurd (cc)

pub IsLineOf-read : (told : Told) (line : List ℕ) → reading line ≡ Tells told → IsLineOf told line
IsLineOf-read told line e = by_behind line told (behind Allow line) (behind Deny line) refl refl e

-- ---- what was written is read

no_colon : (b : ℕ) → IsFieldByte b → eqb b 58 ≡ false
no_colon b byte = ne_eqb b 58 byte.no_colon

-- a byte of a word: no blank, and ASCII
record IsWordByte (b : ℕ) : Type 0 where
  above : 32 < b
  below : b < 127

in_word : (b : ℕ) → IsFieldByte b → IsWordByte b
in_word b byte = record { above = byte.above; below = byte.below }

no_blank : (b : ℕ) → IsWordByte b → eqb b 32 ≡ false
no_blank b byte = ne_eqb b 32 (λ is. omega (arith, byte.above))

ascii : (b : ℕ) → IsWordByte b → b < 128
ascii b byte = omega (arith, byte.below)

colon : IsWordByte 58
colon = record { above = omega arith; below = omega arith }

field_word : (xs : List ℕ) → All IsFieldByte xs → All IsWordByte xs
field_word = All-weaker IsFieldByte IsWordByte in_word

with_colon : (xs ys : List ℕ) → All IsFieldByte xs → All IsWordByte ys → All IsWordByte (xs ++ 58 ∷ ys)
with_colon xs ys first rest =
    All-append IsWordByte xs (58 ∷ ys) (field_word xs first) (All-cons IsWordByte 58 ys colon rest)

split_field : (xs ys : List ℕ) (parts : List (List ℕ)) → All IsFieldByte xs → fields_of ys ≡ parts → fields_of (xs ++ 58 ∷ ys) ≡ xs ∷ parts
split_field xs ys parts bytes later =
    slice_split_at (λ b. b == 58) xs 58 ys (All-weaker IsFieldByte (λ b. eqb b 58 ≡ false) no_colon xs bytes) refl ∙ ap (λ (ps : List (List ℕ)). xs ∷ ps) later

last_field : (xs : List ℕ) → All IsFieldByte xs → fields_of xs ≡ xs ∷ []
last_field xs bytes = slice_split_none (λ b. b == 58) xs (All-weaker IsFieldByte (λ b. eqb b 58 ≡ false) no_colon xs bytes)

split_word : (xs ys : List ℕ) (parts : List (List ℕ)) → All IsWordByte xs → words_of ys ≡ parts → words_of (xs ++ 32 ∷ ys) ≡ xs ∷ parts
split_word xs ys parts bytes later =
    slice_split_at (λ b. b == 32) xs 32 ys (All-weaker IsWordByte (λ b. eqb b 32 ≡ false) no_blank xs bytes) refl ∙ ap (λ (ps : List (List ℕ)). xs ∷ ps) later

last_word : (xs : List ℕ) → All IsWordByte xs → words_of xs ≡ xs ∷ []
last_word xs bytes = slice_split_none (λ b. b == 32) xs (All-weaker IsWordByte (λ b. eqb b 32 ≡ false) no_blank xs bytes)

port_bytes : (n : ℕ) → n ≤ 65535 → All IsFieldByte (decimal n)
port_bytes n fits = decimal_bytes n (omega (arith, greatest_port))

end_in-written : (end : LocalEnd) → IsEnd end.ip end.port → IsFieldOf end.host → end_in (field end.host) (ipv4_text end.ip) (decimal end.port) ≡ Some end
end_in-written end at host =
    ap (λ b. cond b (option_and_then (λ address. option_map (end_at (field end.host) address) (number_written 65535 (decimal end.port))) (ipv4_in (ipv4_text end.ip))) None) host.whole
    ∙ ap (option_and_then (λ address. option_map (end_at (field end.host) address) (number_written 65535 (decimal end.port)))) (ipv4_in-text end.ip at.address)
    ∙ ap (option_map (end_at (field end.host) end.ip)) (number_written-decimal 65535 end.port at.port_fits (omega (arith, at.port_fits)))
    ∙ ap (λ (name : Option (List ℕ)). Some (record { ip = end.ip; port = end.port; host = name })) host.named

local-right : (local : LocalEnd) → local_text local ≡ field local.host ++ 58 ∷ (ipv4_text local.ip ++ 58 ∷ decimal local.port)
local-right local = simp append_assoc

local_in-written : (local : LocalEnd) → IsEnd local.ip local.port → IsFieldOf local.host → local_in (fields_of (local_text local)) ≡ Some local
local_in-written local at host =
    let parts = split_field _ _ _ host.bytes (split_field _ _ _ (address_bytes local.ip at.address) (last_field (decimal local.port) (port_bytes local.port at.port_fits))) in
    ap local_in (ap fields_of (local-right local) ∙ parts) ∙ end_in-written local at host

peer-right : (peer : Client) → remote_text peer ≡ field peer.host ++ 58 ∷ (ipv4_text peer.ip ++ 58 ∷ (field peer.info ++ 58 ∷ decimal peer.port))
peer-right peer = simp append_assoc

peer_in-written : (peer : Client) → IsEnd peer.ip peer.port → IsFieldOf peer.host → IsFieldOf peer.info → peer_in (fields_of (remote_text peer)) ≡ Some peer
peer_in-written peer at host info =
    let port = last_field (decimal peer.port) (port_bytes peer.port at.port_fits) in
    let parts = split_field _ _ _ host.bytes (split_field _ _ _ (address_bytes peer.ip at.address) (split_field _ _ _ info.bytes port)) in
    let end : LocalEnd = record { ip = peer.ip; port = peer.port; host = peer.host } in
    ap peer_in (ap fields_of (peer-right peer) ∙ parts)
    ∙ ap (λ b. cond b (option_map (peer_with (field peer.info)) (end_in (field peer.host) (ipv4_text peer.ip) (decimal peer.port))) None) info.whole
    ∙ ap (option_map (peer_with (field peer.info))) (end_in-written end at host)
    ∙ ap (λ (name : Option (List ℕ)). Some (record { ip = peer.ip; port = peer.port; host = peer.host; info = name })) info.named

local_bytes : (local : LocalEnd) → IsEnd local.ip local.port → IsFieldOf local.host → All IsWordByte (local_text local)
local_bytes local at host =
    subst (All IsWordByte) (sym (local-right local)) (with_colon _ _ host.bytes (with_colon _ _ (address_bytes local.ip at.address) (field_word _ (port_bytes local.port at.port_fits))))

peer_bytes : (peer : Client) → IsEnd peer.ip peer.port → IsFieldOf peer.host → IsFieldOf peer.info → All IsWordByte (remote_text peer)
peer_bytes peer at host info =
    subst (All IsWordByte) (sym (peer-right peer)) (with_colon _ _ host.bytes (with_colon _ _ (address_bytes peer.ip at.address) (with_colon _ _ info.bytes (field_word _ (port_bytes peer.port at.port_fits)))))

module _ (told : Told) (words : List ℕ) (is : IsWordsOf told words) where
  local_field : IsFieldOf told.local.host
  local_field = field_of told.local.host is.local_host

  host_field : IsFieldOf told.peer.host
  host_field = field_of told.peer.host is.host

  info_field : IsFieldOf told.peer.info
  info_field = field_of told.peer.info is.info

  local_word : All IsWordByte (local_text told.local)
  local_word = local_bytes told.local is.local_end local_field

  peer_word : All IsWordByte (remote_text told.peer)
  peer_word = peer_bytes told.peer is.peer_end host_field info_field

  serial_word : All IsWordByte (decimal told.serial)
  serial_word = field_word (decimal told.serial) (decimal_bytes told.serial is.serial_fits)

  pub words_are_text : IsUtf8 words
  words_are_text =
      let all = λ (xs : List ℕ) (bytes : All IsWordByte xs). All-weaker IsWordByte (λ b. b < 128) ascii xs bytes in
      let blank : 32 < 128 = omega arith in
      let rest = All-append (λ b. b < 128) _ _ (all _ local_word) (All-cons (λ b. b < 128) 32 _ blank (all _ peer_word)) in
      let whole = All-append (λ b. b < 128) _ _ (all _ serial_word) (All-cons (λ b. b < 128) 32 _ blank rest) in
      IsUtf8-from_ascii words (IsAscii-from_all words (subst (All (λ b. b < 128)) (sym is.text) whole))

  pub told_in-written : told_in told.verdict (words_of words) ≡ Some told
  told_in-written =
      let parts = split_word _ _ _ serial_word (split_word _ _ _ local_word (last_word (remote_text told.peer) peer_word)) in
      ap (told_in told.verdict) (ap words_of is.text ∙ parts)
      ∙ ap (option_and_then (λ n. option_and_then (λ l. option_map (told_with told.verdict n l) (peer_in (fields_of (remote_text told.peer)))) (local_in (fields_of (local_text told.local)))))
      (number_written-decimal 18446744073709551615 told.serial (omega (arith, is.serial_fits)) is.serial_fits)
      ∙ ap (option_and_then (λ l. option_map (told_with told.verdict told.serial l) (peer_in (fields_of (remote_text told.peer))))) (local_in-written told.local is.local_end local_field)
      ∙ ap (option_map (told_with told.verdict told.serial told.local)) (peer_in-written told.peer is.peer_end host_field info_field)

-- the words of a line
words-of_line : (told : Told) (line : List ℕ) → IsLineOf told line → line ≡ front_of told.verdict ++ (decimal told.serial ++ (32 ∷ (local_text told.local ++ (32 ∷ remote_text told.peer))))
words-of_line told line is =
    append_cancel_right line _ (codes "\n") (is.text ∙ sym (whole-text (front_of told.verdict) (decimal told.serial) (local_text told.local) (remote_text told.peer)))

reading-front : (verdict : Verdict) (words : List ℕ) → reading (front_of verdict ++ words) ≡ tells_or_not (told_in verdict (words_of words))
reading-front Allow words =
    ap (λ (allowed : Option (List ℕ)). reading_by allowed (behind Deny (front_of Allow ++ words))) (behind_front-append (front_of Allow) words)
reading-front Deny words =
    ap (λ (denied : Option (List ℕ)). reading_by (behind Allow (front_of Deny ++ words)) denied) (behind_front-append (front_of Deny) words)

pub reading-written : (told : Told) (line : List ℕ) → IsLineOf told line → reading line ≡ Tells told
reading-written told line is =
    let words = decimal told.serial ++ (32 ∷ (local_text told.local ++ (32 ∷ remote_text told.peer))) in
    let of : IsWordsOf told words = record { serial_fits = is.serial_fits; local_end = is.local_end; peer_end = is.peer_end; local_host = is.local_host; host = is.host; info = is.info; text = refl } in
    ap reading (words-of_line told line is) ∙ reading-front told.verdict words ∙ ap tells_or_not (told_in-written told words of)

-- what can be read is a text
pub none-of_no_text : (verdict : Verdict) (words : List ℕ) → ¬ IsUtf8 words → told_in verdict (words_of words) ≡ None
none-of_no_text verdict words no_text = by_cases (told_in verdict (words_of words)) refl where
  by_cases : (o : Option Told) → told_in verdict (words_of words) ≡ o → o ≡ None
  by_cases None is = refl
  by_cases (Some told) is = absurd (no_text (words_are_text told words (told-read verdict words told is).0))
