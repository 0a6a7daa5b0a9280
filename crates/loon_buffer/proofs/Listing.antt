-- Lists of pins that are compared place by place, and places of drives that are gathered.
use Rattle.std.proofs.Common.{◌≡◌, ◌⊎◌, inl, inr, ℕ, ◌+◌, ◌<◌, ◌≤◌, List, [], ◌∷◌, ◌++◌, map, length, get_or, take, refl, sym, ap, ◌∙◌, subst, arith}
use Rattle.std.specs.Global.{Vec}
use Rattle.std.proofs.lemmas.List.{take_more, take_all, get_or-map, length-map, get_or_append_left, get_or_push, map-append, length-append}
use Rattle.std.proofs.lemmas.Bool.{cases_lt}
use Rattle.vlsi_base.specs.declared.name.Port.{Port}
use Rattle.cell_model.specs.declared.cell.Pin.{Pin}
use Rattle.cell_model.specs.Cell.{Cell}
use Rattle.net_core.specs.Places.{IsThere}
use Rattle.delay_sta.proofs.Grouping.{nothing_there, there_more}
use Rattle.loon_buffer.specs.Drives.{IsOtherDrive, AreOtherDrives, drives_at, IsDriveTable}

abbrev pub ports_of : List Pin → List Port
ports_of pins = map (λ (p : Pin). p.port) pins

-- so many pins are the same
pub same_next : (one other : List Pin) (k : ℕ) (p q : Pin) → k < length one → k < length other → p ≡ get_or one k p → q ≡ get_or other k q → q.port ≡ p.port
    → take k (ports_of other) ≡ take k (ports_of one) → take (k + 1) (ports_of other) ≡ take (k + 1) (ports_of one)
same_next one other k p q l m at others same before =
    take_more (ports_of other) k q.port (omega (arith, m, length-map other (λ (x : Pin). x.port)))
    ∙ ap (λ (ps : List Port). ps ++ get_or (ports_of other) k q.port ∷ []) before
    ∙ ap (λ (x : Port). take k (ports_of one) ++ x ∷ []) (read other q m others ∙ same ∙ sym (read one p l at) ∙ unread)
    ∙ sym (take_more (ports_of one) k q.port (omega (arith, l, length-map one (λ (x : Pin). x.port)))) where
      read : (ps : List Pin) (x : Pin) → k < length ps → x ≡ get_or ps k x → get_or (ports_of ps) k x.port ≡ x.port
      read ps x l at = get_or-map (λ (y : Pin). y.port) ps k x x.port l ∙ ap (λ (y : Pin). y.port) (sym at)

      unread : get_or (ports_of one) k p.port ≡ get_or (ports_of one) k q.port
      unread = get_or-map (λ (y : Pin). y.port) one k p p.port l ∙ sym (get_or-map (λ (y : Pin). y.port) one k p q.port l)

pub other_here : (one other : List Pin) (k : ℕ) (p q : Pin) → k < length one → k < length other → p ≡ get_or one k p → q ≡ get_or other k q → ports_of other ≡ ports_of one → q.port ≡ p.port
other_here one other k p q l m at others same =
    ap (λ (y : Pin). y.port) others ∙ sym (get_or-map (λ (y : Pin). y.port) other k q p.port m)
    ∙ ap (λ (ps : List Port). get_or ps k p.port) same
    ∙ get_or-map (λ (y : Pin). y.port) one k p p.port l ∙ ap (λ (y : Pin). y.port) (sym at)

pub same_all : (one other : List Pin) (k : ℕ) → length one ≤ k → length one ≡ length other → take k (ports_of other) ≡ take k (ports_of one) → ports_of other ≡ ports_of one
same_all one other k l e same =
    sym (take_all k (ports_of other) (omega (arith, l, e, length-map other (λ (x : Pin). x.port)))) ∙ same
    ∙ take_all k (ports_of one) (omega (arith, l, length-map one (λ (x : Pin). x.port)))

pub other_length : (one other : List Pin) → ports_of other ≡ ports_of one → length one ≡ length other
other_length one other same = sym (length-map one (λ (x : Pin). x.port)) ∙ ap length (sym same) ∙ length-map other (λ (x : Pin). x.port)

-- ---- places of drives

pub none_below : (cells : List Cell) (place : ℕ) → AreOtherDrives cells place 0 []
none_below cells place k = ((λ t. absurd (nothing_there k t)), (λ h. let l = h.0 in absurd (omega (arith, l))))

pub one_more : (cells : List Cell) (place end : ℕ) (old new : List ℕ) → IsOtherDrive cells place end → new ≡ old ++ end ∷ [] → AreOtherDrives cells place end old → AreOtherDrives cells place (end + 1) new
one_more cells place end old new is pushed before k = (one, two) where
  one : IsThere new k → (k < end + 1) × IsOtherDrive cells place k
  one t = elim ((there_more old end k).0 (subst (λ (xs : List ℕ). IsThere xs k) pushed t)) [
    | inl u ↦ let h = (before k).0 u in let l = h.0 in (omega (arith, l), h.1)
    | inr e ↦ (omega (arith, e), subst (λ j. IsOtherDrive cells place j) e is)
  ]

  two : (k < end + 1) × IsOtherDrive cells place k → IsThere new k
  two h = subst (λ (xs : List ℕ). IsThere xs k) (sym pushed) ((there_more old end k).1 (by (cases_lt k end))) where
    by : (k < end) ⊎ (end ≤ k) → IsThere old k ⊎ (end ≡ k)
    by (inl l) = inl ((before k).1 (l, h.1))
    by (inr l) = let m = h.0 in inr (omega (arith, l, m))

pub no_more : (cells : List Cell) (place end : ℕ) (old : List ℕ) → (IsOtherDrive cells place end → ⊥) → AreOtherDrives cells place end old → AreOtherDrives cells place (end + 1) old
no_more cells place end old never before k = (one, two) where
  one : IsThere old k → (k < end + 1) × IsOtherDrive cells place k
  one t = let h = (before k).0 t in let l = h.0 in (omega (arith, l), h.1)

  two : (k < end + 1) × IsOtherDrive cells place k → IsThere old k
  two h = by (cases_lt k end) where
    by : (k < end) ⊎ (end ≤ k) → IsThere old k
    by (inl l) = (before k).1 (l, h.1)
    by (inr l) =
        let m = h.0 in
        let e : k ≡ end = omega (arith, l, m) in
        absurd (never (subst (λ j. IsOtherDrive cells place j) e h.1))

-- drives of so many cells
pub record AreDrivesOf (cells : List Cell) (table : List (Vec ℕ)) (k : ℕ) : Type 0 where
  pub many : length table ≡ k
  pub each : (place : ℕ) → place < k → AreOtherDrives cells place (length cells) (drives_at table place)

pub drives_none : (cells : List Cell) → AreDrivesOf cells [] 0
drives_none cells = record { many = refl; each = λ place l. absurd (omega (arith, l)) }

pub drives_more : (cells : List Cell) (old new : List (Vec ℕ)) (k : ℕ) (d : Vec ℕ) → AreOtherDrives cells k (length cells) d.items → new ≡ old ++ d ∷ [] → AreDrivesOf cells old k → AreDrivesOf cells new (k + 1)
drives_more cells old new k d are pushed before = record { many = many; each = each } where
  lists : List (Vec ℕ) → List (List ℕ)
  lists t = map (λ (v : Vec ℕ). v.items) t

  many : length new ≡ k + 1
  many = let e = ap length pushed in let a = length-append old (d ∷ []) in let m = before.many in omega (arith, e, a, m)

  at : (place : ℕ) → drives_at new place ≡ get_or (map (λ (v : Vec ℕ). v.items) old ++ d.items ∷ []) place []
  at place = ap (λ (t : List (Vec ℕ)). drives_at t place) pushed ∙ ap (λ (ls : List (List ℕ)). get_or ls place []) (map-append (λ (v : Vec ℕ). v.items) old (d ∷ []))

  mapped : length (map (λ (v : Vec ℕ). v.items) old) ≡ k
  mapped = length-map old (λ (v : Vec ℕ). v.items) ∙ before.many

  each : (place : ℕ) → place < k + 1 → AreOtherDrives cells place (length cells) (drives_at new place)
  each place l = subst (λ (ds : List ℕ). AreOtherDrives cells place (length cells) ds) (sym (at place)) (by (cases_lt place k)) where
    by : (place < k) ⊎ (k ≤ place) → AreOtherDrives cells place (length cells) (get_or (map (λ (v : Vec ℕ). v.items) old ++ d.items ∷ []) place [])
    by (inl m) =
        subst (λ (ds : List ℕ). AreOtherDrives cells place (length cells) ds)
        (sym (get_or_append_left (map (λ (v : Vec ℕ). v.items) old) (d.items ∷ []) [] place (omega (arith, m, mapped)))) (before.each place m)
    by (inr m) =
        let e : place ≡ k = omega (arith, l, m) in
        let last : get_or (map (λ (v : Vec ℕ). v.items) old ++ d.items ∷ []) place [] ≡ d.items = get_or_push (map (λ (v : Vec ℕ). v.items) old) d.items [] place (mapped ∙ sym e) in
        subst (λ (ds : List ℕ). AreOtherDrives cells place (length cells) ds) (sym last) (subst (λ j. AreOtherDrives cells j (length cells) d.items) (sym e) are)

pub drives_all : (cells : List Cell) (table : List (Vec ℕ)) (k : ℕ) → k ≡ length cells → AreDrivesOf cells table k → IsDriveTable cells table
drives_all cells table k e h = record { many = h.many ∙ e; each = λ place l. h.each place (omega (arith, l, e)) }
