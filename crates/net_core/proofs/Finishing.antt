-- Drafts that grow, and the netlist of a draft.
use Rattle.std.proofs.Common.{◌≡◌, ℕ, zero, suc, ◌<◌, List, [], ◌∷◌, ◌++◌, length, get_or, map, Result, Ok, Err, refl, sym, ap, ◌∙◌, append_assoc, arith, ◌⊎◌, inl, inr, subst}
use Rattle.std.specs.List.{flat_map}
use Rattle.std.specs.Result.{OnOk, OnErr}
use Rattle.std.proofs.lemmas.Grind.{flat_map-append}
use Rattle.std.proofs.lemmas.Option.{slice_get_within, get_or_from_slice_get}
use Rattle.vlsi_base.specs.declared.name.Port.{Port}
use Rattle.vlsi_base.specs.declared.name.Terminal.{Terminal}
use Rattle.net_core.specs.Places.{IsThere, Stands, NoneTwice}
use Rattle.net_core.specs.Netlist.{Instance, Netlist, IsNetlist, InTurn, port, pins_of, terminals, terminals_of, HasClass}
use Rattle.net_core.specs.Frame.{Frame, frame_terminals, AddsInstance, IsSound, IsUsed, netlist_of}
use Rattle.net_core.specs.Joins.{Draft, Joined, AreWithin, LabelsJoined, NumbersLabels, terminal_at, pairs_at, draft_of, with_instance, IsFinished}
use Rattle.std.proofs.lemmas.List.{length-append, map-append}
use Rattle.net_core.proofs.Standing.{stands_left, stands_last, stands_same}
use Rattle.net_core.proofs.Frames.{unmapped}
use Rattle.net_core.proofs.Learning.{learned_only}
use Rattle.net_core.proofs.Sound.{terminals_once}
use Rattle.net_core.proofs.Joining.{numbers_to_terminals, terminals_to_numbers}

at_left : (ts us : List Terminal) (k : ℕ) → k < length ts → terminal_at (ts ++ us) k ≡ terminal_at ts k
at_left [] us k l = absurd (omega (arith, l))
at_left (t ∷ ts) us zero l = refl
at_left (t ∷ ts) us (suc k) l = at_left ts us k (omega (arith, l))

pairs_left : (ts us : List Terminal) (js : List (ℕ × ℕ)) → AreWithin (length ts) js → pairs_at (ts ++ us) js ≡ pairs_at ts js
pairs_left ts us [] within = refl
pairs_left ts us (p ∷ js) within =
    let w = within 0 p (omega arith) in
    ap (λ (t : Terminal). (t, terminal_at (ts ++ us) p.1) ∷ pairs_at (ts ++ us) js) (at_left ts us p.0 w.0)
    ∙ ap (λ (t : Terminal). (terminal_at ts p.0, t) ∷ pairs_at (ts ++ us) js) (at_left ts us p.1 w.1)
    ∙ ap (λ (xs : List (Terminal × Terminal)). (terminal_at ts p.0, terminal_at ts p.1) ∷ xs) (pairs_left ts us js (λ k d l. within (suc k) d (omega (arith, l))))

pub terminals_grow : (old new : Frame) (i : Instance) → AddsInstance old new i → frame_terminals new ≡ frame_terminals old ++ flat_map pins_of (i ∷ [])
terminals_grow old new i adds =
    ap (λ (ps : List Port). terminals_of ps new.instances) adds.ports ∙ ap (terminals_of old.ports) adds.instances
    ∙ ap (λ (ts : List Terminal). map (λ p. port p.name) old.ports ++ ts) (flat_map-append pins_of old.instances (i ∷ []))
    ∙ sym (append_assoc (map (λ p. port p.name) old.ports) (flat_map pins_of old.instances) (flat_map pins_of (i ∷ [])))

pub draft_grows : (name : List ℕ) (old new : Frame) (js : List (ℕ × ℕ)) (i : Instance) → AddsInstance old new i → AreWithin (length (frame_terminals old)) js → draft_of name new js ≡ with_instance (draft_of name old js) i
draft_grows name old new js i adds within =
    ap (λ (ts : List Terminal). made new.ports new.instances (pairs_at ts js)) (terminals_grow old new i adds)
    ∙ ap (made new.ports new.instances) (pairs_left (frame_terminals old) (flat_map pins_of (i ∷ [])) js within)
    ∙ ap (λ (ps : List Port). made ps new.instances (pairs_at (frame_terminals old) js)) adds.ports
    ∙ ap (λ (is : List Instance). made old.ports is (pairs_at (frame_terminals old) js)) adds.instances where
      made : List Port → List Instance → List (Terminal × Terminal) → Draft
      made ports instances joins = record { name = name; ports = ports; instances = instances; joins = joins }

pub netlist_sound : (name : List ℕ) (frame : Frame) (classes : List ℕ) (count : ℕ) → IsSound frame → length classes ≡ length (frame_terminals frame) → InTurn 0 classes count → IsNetlist (netlist_of name frame classes count)
netlist_sound name frame classes count sound each turns = record {
  ports = sound.ports;
  names = sound.names;
  pins = sound.pins;
  models = sound.models;
  different = sound.different;
  each = each;
  turns = turns;
}

-- the model of an instance is one that instances can be given
has_model : (f : Frame) → IsSound f → (model : List ℕ) → IsThere (map (λ (i : Instance). i.model) f.instances) model → IsThere f.models model
has_model f sound model t =
    let u = unmapped (λ (i : Instance). i.model) f.instances t.0 model t.1 in
    let w = slice_get_within f.instances t.0 u.0 u.1 in
    let g : get_or f.instances t.0 u.0 ≡ u.0 = get_or_from_slice_get f.instances t.0 u.0 u.0 u.1 in
    subst (λ (m : List ℕ). IsThere f.models m) u.2 (subst (λ (i : Instance). IsThere f.models i.model) g (sound.models t.0 u.0 w))

-- an added instance keeps each model in use
pub used_more : (old new : Frame) (i : Instance) → IsUsed old → AddsInstance old new i → IsUsed new
used_more old new i used adds model there = by (learned_only old.models new.models i.model adds.models model there) where
  grown : map (λ (x : Instance). x.model) new.instances ≡ map (λ (x : Instance). x.model) old.instances ++ i.model ∷ []
  grown = ap (map (λ (x : Instance). x.model)) adds.instances ∙ map-append (λ (x : Instance). x.model) old.instances (i ∷ [])

  by : IsThere old.models model ⊎ (i.model ≡ model) → IsThere (map (λ (x : Instance). x.model) new.instances) model
  by (inl t) = let u = used model t in subst (λ (xs : List (List ℕ)). IsThere xs model) (sym grown) (u.0, stands_left (map (λ (x : Instance). x.model) old.instances) (i.model ∷ []) u.0 model u.1)
  by (inr e) = subst (λ (xs : List (List ℕ)). IsThere xs model) (sym grown)
      (subst (λ (m : List ℕ). IsThere (map (λ (x : Instance). x.model) old.instances ++ i.model ∷ []) m) e (length (map (λ (x : Instance). x.model) old.instances), stands_last (map (λ (x : Instance). x.model) old.instances) i.model))

pub used_after : {T E : Type 0} (r : Result T E) (old new : Frame) (i : Instance) → IsUsed old → OnOk r (AddsInstance old new i) → OnErr r (new ≡ old) → IsUsed new
used_after (Ok x) old new i used adds same = used_more old new i used adds
used_after (Err e) old new i used adds same = subst (λ (f : Frame). IsUsed f) (sym same) used

within_more : (old new : Frame) (js : List (ℕ × ℕ)) (i : Instance) → AddsInstance old new i → AreWithin (length (frame_terminals old)) js → AreWithin (length (frame_terminals new)) js
within_more old new js i adds within k d l =
    let w = within k d l in
    let g = length-append (frame_terminals old) (flat_map pins_of (i ∷ [])) in
    let e : length (frame_terminals new) ≡ length (frame_terminals old ++ flat_map pins_of (i ∷ [])) = ap length (terminals_grow old new i adds) in
    (omega (arith, w.0, g, e), omega (arith, w.1, g, e))

pub within_after : {T E : Type 0} (r : Result T E) (old new : Frame) (js : List (ℕ × ℕ)) (i : Instance) → AreWithin (length (frame_terminals old)) js → OnOk r (AddsInstance old new i) → OnErr r (new ≡ old) → AreWithin (length (frame_terminals new)) js
within_after (Ok x) old new js i within adds same = within_more old new js i adds within
within_after (Err e) old new js i within adds same = subst (λ (f : Frame). AreWithin (length (frame_terminals f)) js) (sym same) within

pub finished : (name : List ℕ) (frame : Frame) (js : List (ℕ × ℕ)) (labels classes : List ℕ) (count : ℕ) → IsSound frame → IsUsed frame → AreWithin (length (frame_terminals frame)) js
    → length labels ≡ length (frame_terminals frame) → LabelsJoined js labels → NumbersLabels labels classes count → IsFinished (draft_of name frame js) (netlist_of name frame classes count)
finished name frame js labels classes count sound used within each joined numbers = record {
  name = refl;
  ports = refl;
  instances = refl;
  models = λ model. (used model, λ t. has_model frame sound model t);
  classes = λ a b j k h g. (to a b j k h g, from a b j k h g);
} where
  n : Netlist
  n = netlist_of name frame classes count

  is_class : (p j : ℕ) → Stands classes p j → get_or classes p 0 ≡ j
  is_class p j s = get_or_from_slice_get classes p j 0 s

  inside : (p j : ℕ) → Stands classes p j → p < length labels
  inside p j s = let w = slice_get_within classes p j s in let e = numbers.each in omega (arith, w, e)

  to : (a b : Terminal) (j k : ℕ) → HasClass (netlist_of name frame classes count) a j → HasClass (netlist_of name frame classes count) b k → j ≡ k → Joined (pairs_at (frame_terminals frame) js) a b
  to a b j k h g e =
      let same : get_or classes h.0 0 ≡ get_or classes g.0 0 = is_class h.0 j h.2 ∙ e ∙ sym (is_class g.0 k g.2) in
      let label = (numbers.alike h.0 g.0 (inside h.0 j h.2) (inside g.0 k g.2)).0 same in
      numbers_to_terminals (frame_terminals frame) js within ((joined h.0 g.0 (inside h.0 j h.2) (inside g.0 k g.2)).0 label) a b h.1 g.1

  from : (a b : Terminal) (j k : ℕ) → HasClass (netlist_of name frame classes count) a j → HasClass (netlist_of name frame classes count) b k → Joined (pairs_at (frame_terminals frame) js) a b → j ≡ k
  from a b j k h g t =
      let linked = terminals_to_numbers (frame_terminals frame) js (terminals_once frame sound) within t h.0 g.0 h.1 g.1 in
      let label = (joined h.0 g.0 (inside h.0 j h.2) (inside g.0 k g.2)).1 linked in
      let same : get_or classes h.0 0 ≡ get_or classes g.0 0 = (numbers.alike h.0 g.0 (inside h.0 j h.2) (inside g.0 k g.2)).1 label in
      sym (is_class h.0 j h.2) ∙ same ∙ is_class g.0 k g.2

pub on_ok : {T E P Q : Type 0} (r : Result T E) → (P → Q) → OnOk r P → OnOk r Q
on_ok (Ok x) f p = f p
on_ok (Err e) f p = tt

sound_of : (n : Netlist) → IsNetlist n → IsSound (record { ports = n.ports; models = n.models; instances = n.instances })
sound_of n is = record { ports = is.ports; names = is.names; pins = is.pins; models = is.models; different = is.different }

-- the terminals of a netlist are different, so each has one class
pub netlist_terminals_once : (n : Netlist) → IsNetlist n → NoneTwice (terminals n)
netlist_terminals_once n is = terminals_once (record { ports = n.ports; models = n.models; instances = n.instances }) (sound_of n is)

pub class_once : (n : Netlist) → IsNetlist n → (t : Terminal) (j k : ℕ) → HasClass n t j → HasClass n t k → j ≡ k
class_once n is t j k h g =
    let e : g.0 ≡ h.0 = netlist_terminals_once n is g.0 h.0 t g.1 h.1 in
    stands_same n.classes h.0 j k h.2 (subst (λ p. Stands n.classes p k) e g.2)
