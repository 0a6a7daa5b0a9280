-- Passes over all instances, and the time of the longest path.
use Rattle.std.proofs.Common.{◌≡◌, ◌⊎◌, inl, inr, ℕ, zero, suc, ◌+◌, ◌<◌, ◌≤◌, Bool, true, false, List, [], ◌∷◌, length, get_or, max, Option, Some, None, refl, sym, ap, ◌∙◌, subst, arith}
use Rattle.std.specs.Global.{Vec}
use Rattle.std.specs.Option.{unwrap_or}
use Rattle.std.proofs.lemmas.Bool.{cases_lt}
use Rattle.std.proofs.lemmas.Option.{slice_get_within}
use Rattle.cell_model.specs.Cell.{Cell}
use Rattle.cell_model.specs.Library.{Library}
use Rattle.net_core.specs.Places.{Stands, IsThere}
use Rattle.net_core.specs.Netlist.{Instance, Netlist, IsNetlist, port, pin_of}
use Rattle.net_core.proofs.Rings.{class_below, at_place}
use Rattle.net_theory.specs.Exchanges.{IsDrive}
use Rattle.delay_sta.specs.declared.arrivals.Delays.{Delays}
use Rattle.delay_sta.specs.Paths.{IsEnd, at_port, at_data, Arrives, Ends, IsGreatest, IsWorst}
use Rattle.delay_sta.specs.Timed.{AreDelaysOf}
use Rattle.delay_sta.specs.Exchanged.{IsTraced}
use Rattle.loon_buffer.specs.Drives.{IsDriveTable, IsAt, IsChosenFor, OnlyExchanges, IsDriven}
use Rattle.loon_buffer.specs.Choices.{IsReady, HasMarkedPin, IsShorter, IsNoLonger, Shortens, IsDrivenAt}
use Rattle.loon_buffer.proofs.Exchanging.{with_model, others}
use Rattle.loon_buffer.proofs.Keeping.{drive_through, none_yet, one_more}
use Rattle.loon_buffer.proofs.Listed.{worst_once, table_is_enough}

-- ---- the time of the longest path

-- the latest arrival of some classes; 0 where none arrives
pub latest : List (Option ℕ) → List ℕ → ℕ
latest arrivals [] = 0
latest arrivals (x ∷ ends) = max (unwrap_or (get_or arrivals x None) 0) (latest arrivals ends)

latest_most : (arrivals : List (Option ℕ)) (ends : List ℕ) (k class time : ℕ) → Stands ends k class → get_or arrivals class None ≡ Some time → time ≤ latest arrivals ends
unfolding latest
latest_most arrivals [] k class time s e = absurd cc
latest_most arrivals (x ∷ ends) zero class time s e =
    let f : Some x ≡ Some class = s in
    let same : x ≡ class = cc in
    let at : unwrap_or (get_or arrivals x None) 0 ≡ time = ap (λ (o : Option ℕ). unwrap_or o 0) (ap (λ c. get_or arrivals c None) same ∙ e) in
    omega (arith, at)
latest_most arrivals (x ∷ ends) (suc k) class time s e = let r = latest_most arrivals ends k class time s e in omega (arith, r)

-- one of some classes arrives at this time, or it is 0
abbrev IsOf : List (Option ℕ) → List ℕ → ℕ → Type 0
IsOf arrivals ends time = ((class : ℕ) × IsThere ends class × (get_or arrivals class None ≡ Some time)) ⊎ (time ≡ 0)

later_of : (arrivals : List (Option ℕ)) (x : ℕ) (ends : List ℕ) (time : ℕ) → IsOf arrivals ends time → IsOf arrivals (x ∷ ends) time
later_of arrivals x ends time (inl w) = inl (w.0, (suc w.1.0, w.1.1), w.2)
later_of arrivals x ends time (inr z) = inr z

greater : (arrivals : List (Option ℕ)) (x : ℕ) (ends : List ℕ) (rest : ℕ) (o : Option ℕ) → get_or arrivals x None ≡ o → IsOf arrivals ends rest → IsOf arrivals (x ∷ ends) (max (unwrap_or o 0) rest)
greater arrivals x ends rest None e h = let same : rest ≡ max 0 rest = omega arith in subst (IsOf arrivals (x ∷ ends)) same (later_of arrivals x ends rest h)
greater arrivals x ends rest (Some t) e h = by (cases_lt t rest) where
  by : (t < rest) ⊎ (rest ≤ t) → IsOf arrivals (x ∷ ends) (max t rest)
  by (inl l) = let same : rest ≡ max t rest = omega (arith, l) in subst (IsOf arrivals (x ∷ ends)) same (later_of arrivals x ends rest h)
  by (inr l) = let same : t ≡ max t rest = omega (arith, l) in subst (IsOf arrivals (x ∷ ends)) same (inl (x, (0, refl), e))

latest_is : (arrivals : List (Option ℕ)) (ends : List ℕ) → IsOf arrivals ends (latest arrivals ends)
unfolding latest
latest_is arrivals [] = inr refl
latest_is arrivals (x ∷ ends) = greater arrivals x ends (latest arrivals ends) (get_or arrivals x None) refl (latest_is arrivals ends)

end_low : (n : Netlist) → IsNetlist n → (l : Library) (class : ℕ) → IsEnd n l class → class < n.count
end_low n sound l class (at_port output t gives joined) = class_below n sound (port output.name) class joined
end_low n sound l class (at_data i c data_name clock_name t found is joined) = class_below n sound (pin_of i.name data_name) class joined

pub worst_is : (n : Netlist) (l : Library) (d : Delays) → IsNetlist n → AreDelaysOf n l d → IsWorst n l (latest d.arrivals.items d.ends.items)
worst_is n l d sound are = record { is = is_now (latest_is d.arrivals.items d.ends.items); most = most } where
  greatest_at : (class : ℕ) → IsEnd n l class → IsGreatest (Arrives n l class) (get_or d.arrivals.items class None)
  greatest_at class g = are.arrivals class (end_low n sound l class g)

  is_now : IsOf d.arrivals.items d.ends.items (latest d.arrivals.items d.ends.items) → Ends n l (latest d.arrivals.items d.ends.items) ⊎ (latest d.arrivals.items d.ends.items ≡ 0)
  is_now (inr z) = inr z
  is_now (inl w) =
      let g = (are.ends w.0).0 w.1 in
      let r = subst (λ (o : Option ℕ). IsGreatest (Arrives n l w.0) o) w.2 (greatest_at w.0 g) in
      inl (w.0, g, r.0)

  most : (late : ℕ) → Ends n l late → late ≤ latest d.arrivals.items d.ends.items
  most late e = by (get_or d.arrivals.items e.0 None) refl (greatest_at e.0 e.1) where
    by : (o : Option ℕ) → get_or d.arrivals.items e.0 None ≡ o → IsGreatest (Arrives n l e.0) o → late ≤ latest d.arrivals.items d.ends.items
    by None q g = absurd (g late e.2)
    by (Some t) q g =
        let p = (are.ends e.0).1 e.1 in
        let a = latest_most d.arrivals.items d.ends.items p.0 e.0 t p.1 q in
        let b = g.1 late e.2 in
        omega (arith, a, b)

-- ---- a pass

-- what holds behind so many instances
pub record Passing (l : Library) (table : List (Vec ℕ)) (old now : Netlist) (d : Delays) (helped : Bool) (k : ℕ) : Type 0 where
  pub ready : IsReady l now d
  pub traced : IsTraced now l d.marks.items
  pub chosen : OnlyExchanges l old now
  pub shorter : helped ≡ true → IsShorter l old now
  pub kept : helped ≡ false → now ≡ old
  pub driven : helped ≡ false → (j : ℕ) → j < k → IsDrivenAt l table old j

pub passing_start : (l : Library) (table : List (Vec ℕ)) (n : Netlist) (d : Delays) → IsReady l n d → IsTraced n l d.marks.items → Passing l table n n d false 0
passing_start l table n d ready traced = record {
  ready = ready;
  traced = traced;
  chosen = none_yet l n ready.timed;
  shorter = λ e. absurd cc;
  kept = λ e. refl;
  driven = λ e j l. absurd (omega (arith, l));
}

-- no exchange of an instance with no pin in a marked class makes the longest path shorter
unmarked : (l : Library) (table : List (Vec ℕ)) (n : Netlist) (marks : List Bool) (k : ℕ) → IsTraced n l marks → (HasMarkedPin n marks k → ⊥) → IsDrivenAt l table n k
unmarked l table n marks k (inr zero_long) never m time late x e before after = let w = worst_once n l time 0 before zero_long in omega (arith, w)
unmarked l table n marks k (inl h) never m time late x e before after =
    let a = worst_once n l time h.time before h.longest in
    let b = others l n m x.exchange h.class h.time late h.end h.path
    (λ s there at. never (record { class = s.to; at = subst (λ j. IsAt n s.to j) e at; marked = h.marked s there })) after in
    omega (arith, a, b)

-- so many instances, and the next
driven_more : (l : Library) (table : List (Vec ℕ)) (n : Netlist) (k : ℕ) → ((j : ℕ) → j < k → IsDrivenAt l table n j) → IsDrivenAt l table n k → (j : ℕ) → j < k + 1 → IsDrivenAt l table n j
driven_more l table n k before here j low = by (cases_lt j k) where
  by : (j < k) ⊎ (k ≤ j) → IsDrivenAt l table n j
  by (inl less) = before j less
  by (inr last) = let same : k ≡ j = omega (arith, low, last) in subst (IsDrivenAt l table n) same here

pub passing_unmarked : (l : Library) (table : List (Vec ℕ)) (old now : Netlist) (d : Delays) (helped : Bool) (k : ℕ) → Passing l table old now d helped k → (HasMarkedPin now d.marks.items k → ⊥)
    → Passing l table old now d helped (k + 1)
passing_unmarked l table old now d helped k p never = record {
  ready = p.ready;
  traced = p.traced;
  chosen = p.chosen;
  shorter = p.shorter;
  kept = p.kept;
  driven = λ e. driven_more l table old k (p.driven e)
      (subst (λ (n : Netlist). IsDrivenAt l table n k) (p.kept e) (unmarked l table now d.marks.items k p.traced never));
}

pub passing_idle : (l : Library) (table : List (Vec ℕ)) (old now new : Netlist) (d e : Delays) (helped : Bool) (k : ℕ) → Passing l table old now d helped k → IsReady l new e → e.marks ≡ d.marks → new ≡ now
    → IsDrivenAt l table now k → Passing l table old new e helped (k + 1)
passing_idle l table old now new d e helped k p ready marks same here = record {
  ready = ready;
  traced = subst (λ (m : Vec Bool). IsTraced new l m.items) (sym marks) (subst (λ (n : Netlist). IsTraced n l d.marks.items) (sym same) p.traced);
  chosen = subst (λ (n : Netlist). OnlyExchanges l old n) (sym same) p.chosen;
  shorter = λ t. subst (λ (n : Netlist). IsShorter l old n) (sym same) (p.shorter t);
  kept = λ t. same ∙ p.kept t;
  driven = λ t. driven_more l table old k (p.driven t) (subst (λ (n : Netlist). IsDrivenAt l table n k) (p.kept t) here);
}

shorter_through : (l : Library) (old now new : Netlist) (d : Delays) → IsReady l now d → IsShorter l old now → IsShorter l now new → IsShorter l old new
shorter_through l old now new d ready one two before after p q =
    let w = worst_is now l d ready.sound ready.delays in
    let a = one before (latest d.arrivals.items d.ends.items) p w in
    let b = two (latest d.arrivals.items d.ends.items) after w q in
    omega (arith, a, b)

pub passing_helped : (l : Library) (table : List (Vec ℕ)) (old now new : Netlist) (d e : Delays) (helped : Bool) (k : ℕ) → Passing l table old now d helped k → IsReady l new e → IsTraced new l e.marks.items
    → Shortens l now new → Passing l table old new e true (k + 1)
passing_helped l table old now new d e helped k p ready traced h = record {
  ready = ready;
  traced = traced;
  chosen = one_more l old now new p.chosen h.exchange;
  shorter = λ t. by helped refl;
  kept = λ t. absurd cc;
  driven = λ t. absurd cc;
} where
  by : (b : Bool) → helped ≡ b → IsShorter l old new
  by true t = shorter_through l old now new d p.ready (p.shorter t) h.shorter
  by false t = subst (λ (n : Netlist). IsShorter l n new) (p.kept t) h.shorter

pub passed : (l : Library) (table : List (Vec ℕ)) (old now : Netlist) (d : Delays) (helped : Bool) (k : ℕ) → IsDriveTable l.cells table → length now.instances ≤ k → Passing l table old now d helped k
    → helped ≡ false → IsDriven now l
passed l table old now d helped k is all p e =
    table_is_enough l table now is p.ready.timed (λ m time late x before after.
    let w = slice_get_within now.instances x.exchange.place x.exchange.owner x.exchange.stands in
    subst (λ (n : Netlist). IsDrivenAt l table n x.exchange.place) (sym (p.kept e)) (p.driven e x.exchange.place (omega (arith, w, all))) m time late x refl before after)

-- ---- passes, one after the other

pub record Choosing (l : Library) (old now : Netlist) (d : Delays) : Type 0 where
  pub ready : IsReady l now d
  pub chosen : OnlyExchanges l old now
  pub no_longer : IsNoLonger l old now

pub choosing_start : (l : Library) (n : Netlist) (d : Delays) → IsReady l n d → Choosing l n n d
choosing_start l n d ready = record { ready = ready; chosen = none_yet l n ready.timed; no_longer = λ before after p q. worst_once n l after before q p }

chosen_through : (l : Library) (i j k : Instance) → IsChosenFor l i j → IsChosenFor l j k → IsChosenFor l i k
chosen_through l i j k a b =
    let same : b.was ≡ a.now = (let f : Some b.was ≡ Some a.now = sym b.found ∙ a.listed in cc) in
    record {
      same = b.same ∙ ap (λ (o : Instance). with_model o k.model) a.same;
      was = a.was;
      found = a.found;
      now = b.now;
      listed = b.listed;
      usable = b.usable;
      drive = drive_through a.was a.now b.now a.drive (subst (λ (c : Cell). IsDrive c b.now) same b.drive);
    }

only_through : (l : Library) (old mid new : Netlist) → OnlyExchanges l old mid → OnlyExchanges l mid new → OnlyExchanges l old new
only_through l old mid new a b = record {
  now = b.now ∙ ap (λ (n : Netlist). record n { instances = new.instances }) a.now;
  many = b.many ∙ a.many;
  each = λ k i j s t.
      let low = slice_get_within new.instances k j t in
      let m = b.many in
      let o = at_place mid.instances k (omega (arith, low, m)) in
      chosen_through l i o.0 j (a.each k i o.0 s o.1) (b.each k o.0 j o.1 t);
}

pub choosing_step : (l : Library) (old now new : Netlist) (d e : Delays) → Choosing l old now d → IsReady l new e → OnlyExchanges l now new → IsShorter l now new → Choosing l old new e
choosing_step l old now new d e p ready chosen shorter = record {
  ready = ready;
  chosen = only_through l old now new p.chosen chosen;
  no_longer = λ before after a b.
      let w = worst_is now l d p.ready.sound p.ready.delays in
      let x = p.no_longer before (latest d.arrivals.items d.ends.items) a w in
      let y = shorter (latest d.arrivals.items d.ends.items) after w b in
      omega (arith, x, y);
}

-- the time of the longest path falls
pub falls : (l : Library) (now new : Netlist) (d e : Delays) → IsReady l now d → IsReady l new e → IsShorter l now new → latest e.arrivals.items e.ends.items < latest d.arrivals.items d.ends.items
falls l now new d e p q shorter =
    shorter (latest d.arrivals.items d.ends.items) (latest e.arrivals.items e.ends.items) (worst_is now l d p.sound p.delays) (worst_is new l e q.sound q.delays)

pub ready_with : (l : Library) (n : Netlist) (d e : Delays) → IsReady l n d → AreDelaysOf n l e → IsReady l n e
ready_with l n d e ready delays = record { sound = ready.sound; timed = ready.timed; models = ready.models; delays = delays }

pub passing_as : (l : Library) (table : List (Vec ℕ)) (old now new : Netlist) (d e : Delays) (helped late : Bool) (k : ℕ) → new ≡ now → e ≡ d → late ≡ helped → Passing l table old now d helped k
    → Passing l table old new e late k
passing_as l table old now new d e helped late k a b c p =
    subst (λ (n : Netlist). Passing l table old n e late k) (sym a)
    (subst (λ (x : Delays). Passing l table old now x late k) (sym b) (subst (λ t. Passing l table old now d t k) (sym c) p))
