-- What an exchange of an instance's cell needs, what it leaves, and how it is taken back.
use Rattle.std.proofs.Common.{◌≡◌, ◌≢◌, ◌⊎◌, inl, inr, ℕ, zero, suc, ◌<◌, ◌≤◌, Bool, true, false, cond, List, [], ◌∷◌, length, Some, refl, sym, ap, ◌∙◌, subst, arith}
use Rattle.std.specs.Prelude.{slice_get, slice_set, AllPairs}
use Rattle.std.specs.Global.{Vec}
use Rattle.std.specs.Cmp.Lexicographic.{bytes_decides}
use Rattle.std.proofs.lemmas.Bool.{cases_lt}
use Rattle.std.proofs.lemmas.Option.{slice_get_within, get_or_from_slice_get}
use Rattle.machine_core.specs.Named.{is_same_text}
use Rattle.cell_model.specs.Cell.{Function, gate, flip_flop, other, opaque, Cell}
use Rattle.cell_model.specs.Library.{Library, cell_named, cell_of, IsUsable}
use Rattle.cell_checks.specs.Checked.{IsChecked}
use Rattle.net_core.specs.Places.{Stands, IsThere}
use Rattle.net_core.specs.Netlist.{Instance, Netlist, IsNetlist, SetsModel}
use Rattle.net_core.proofs.Standing.{stands_same}
use Rattle.net_theory.specs.Exchanges.{IsSameFunction}
use Rattle.delay_sta.specs.declared.arrivals.Delays.{Delays}
use Rattle.delay_sta.specs.Paths.{IsWorst}
use Rattle.delay_sta.specs.Timed.{CanBeTimed, AreDelaysOf}
use Rattle.delay_sta.specs.Exchanged.{AreAlike, IsExchangeAt, IsSetTo}
use Rattle.loon_buffer.specs.Drives.{IsExchange, IsDriveTable, drives_at, IsOtherDrive}
use Rattle.loon_buffer.specs.Choices.{IsReady, IsDriveAt, IsShorter, DoesNotHelp, IsDrivenAt}
use Rattle.loon_buffer.proofs.Exchanging.{with_model, stands_set}
use Rattle.loon_buffer.proofs.Keeping.{still_timed}
use Rattle.loon_buffer.proofs.Listed.{named, set_same, worst_once}

-- ---- cells of a library, of which no two have one name

text_itself : (a : List ℕ) → is_same_text a a ≡ true
text_itself a = (bytes_decides a a).1 refl

text_differs : (a b : List ℕ) → a ≢ b → is_same_text a b ≡ false
text_differs a b apart = by (is_same_text a b) refl where
  by : (t : Bool) → is_same_text a b ≡ t → is_same_text a b ≡ false
  by true e = absurd (apart ((bytes_decides a b).0 e))
  by false e = e

cell_there : (cells : List Cell) → AllPairs (λ a b. a.name ≢ b.name) cells → (k : ℕ) (c : Cell) → Stands cells k c → cell_named cells c.name ≡ Some c
cell_there [] differ k c s = absurd cc
cell_there (d ∷ cells) differ zero c s =
    let e : Some d ≡ Some c = s in
    let same : d ≡ c = cc in
    subst (λ (x : Cell). cell_named (d ∷ cells) x.name ≡ Some x) same (ap (λ b. cond b (Some d) (cell_named cells d.name)) (text_itself d.name))
cell_there (d ∷ cells) differ (suc k) c s =
    let low = slice_get_within cells k c s in
    let apart : d.name ≢ c.name = subst (λ (x : Cell). d.name ≢ x.name) (get_or_from_slice_get cells k c d s) (differ 0 (suc k) d (omega arith) (omega (arith, low))) in
    ap (λ b. cond b (Some d) (cell_named cells c.name)) (text_differs d.name c.name apart)
    ∙ cell_there cells (λ i j x p q. differ (suc i) (suc j) x (omega (arith, p)) (omega (arith, q))) k c s

place_once : (cells : List Cell) → AllPairs (λ a b. a.name ≢ b.name) cells → (i j : ℕ) (c : Cell) → Stands cells i c → Stands cells j c → i ≡ j
place_once cells differ i j c s t = by (cases_lt i j) (cases_lt j i) where
  clash : (a b : ℕ) → Stands cells a c → Stands cells b c → a < b → ⊥
  clash a b u v l =
      differ a b c l (slice_get_within cells b c v)
      (ap (λ (x : Cell). x.name) (get_or_from_slice_get cells a c c u ∙ sym (get_or_from_slice_get cells b c c v)))

  by : (i < j) ⊎ (j ≤ i) → (j < i) ⊎ (i ≤ j) → i ≡ j
  by (inl l) m = absurd (clash i j s t l)
  by (inr l) (inl m) = absurd (clash j i t s m)
  by (inr l) (inr m) = omega (arith, l, m)

-- ---- cells that can stand for others

alike : (f g : Function) → IsSameFunction f g → AreAlike f g
alike (gate e) (gate x) h = record { begins = λ pin. ((λ b. b), (λ b. b)); through = λ pin. ((λ b. b), (λ b. b)); data_pins = refl }
alike (gate e) (flip_flop d k) h = absurd h
alike (gate e) (other m) h = absurd h
alike (gate e) opaque h = absurd h
alike (flip_flop d k) (gate e) h = absurd h
alike (flip_flop d k) (flip_flop b j) h = record {
  begins = λ pin. ((λ e. e ∙ sym h.1), (λ e. e ∙ h.1));
  through = λ pin. ((λ t. t), (λ t. t));
  data_pins = ap Some (sym h.0);
}
alike (flip_flop d k) (other m) h = absurd h
alike (flip_flop d k) opaque h = absurd h
alike (other m) g h = absurd h
alike opaque g h = absurd h

turned : (f g : Function) → IsSameFunction f g → IsSameFunction g f
turned (gate e) (gate x) h = λ w. sym (h w)
turned (gate e) (flip_flop d k) h = absurd h
turned (gate e) (other m) h = absurd h
turned (gate e) opaque h = absurd h
turned (flip_flop d k) (gate e) h = absurd h
turned (flip_flop d k) (flip_flop b j) h = (sym h.0, sym h.1)
turned (flip_flop d k) (other m) h = absurd h
turned (flip_flop d k) opaque h = absurd h
turned (other m) g h = absurd h
turned opaque g h = absurd h

usable_was : (l : Library) (n : Netlist) (number : ℕ) (i : Instance) (c : Cell) → CanBeTimed l n → Stands n.instances number i → cell_of l i.model ≡ Some c → IsUsable c
usable_was l n number i c timed s f =
    let u = timed.usable i (number, s) in
    let same : u.0 ≡ c = (let g : Some u.0 ≡ Some c = sym u.1 ∙ f in cc) in
    subst IsUsable same u.2

-- ---- an exchange

pub exchange_at : (l : Library) (n : Netlist) (d : Delays) (number place : ℕ) → IsReady l n d → IsDriveAt l n number place → IsExchangeAt l n number place
exchange_at l n d number place ready h = record {
  owner = h.owner;
  stands = h.stands;
  was = h.was;
  found = h.found;
  now = h.now;
  there = h.there;
  listed = h.listed;
  usable = h.usable;
  pins = h.drive.pins;
  alike = alike h.was.function h.now.function h.drive.function;
  known = ready.models h.now (place, h.there) h.usable;
}

pub is_exchange : (l : Library) (n m : Netlist) (number place : ℕ) → IsDriveAt l n number place → IsSetTo l n m number place → IsExchange l n m
is_exchange l n m number place h set = record {
  place = number;
  owner = h.owner;
  stands = h.stands;
  was = h.was;
  found = h.found;
  now = h.now;
  listed = h.listed;
  usable = h.usable;
  drive = h.drive;
  sets = subst (λ (c : Cell). SetsModel n m number c.name) (stands_same l.cells place set.cell h.now set.there h.there) set.sets;
}

pub ready_after : (l : Library) (n m : Netlist) (d e : Delays) → IsReady l n d → IsExchange l n m → IsNetlist m → AreDelaysOf m l e → IsReady l m e
ready_after l n m d e ready x sound delays = record {
  sound = sound;
  timed = still_timed l n m ready.timed x;
  models = λ c t u. subst (λ (ms : List (List ℕ)). IsThere ms c.name) (sym (ap (λ (k : Netlist). k.models) x.sets.now)) (ready.models c t u);
  delays = delays;
}

-- ---- taken back

set_twice : (is : List Instance) (place : ℕ) (i j : Instance) → slice_set (slice_set is place i) place j ≡ slice_set is place j
set_twice [] place i j = refl
set_twice (x ∷ is) zero i j = refl
set_twice (x ∷ is) (suc place) i j = ap (λ (ys : List Instance). x ∷ ys) (set_twice is place i j)

module _ (l : Library) (n m : Netlist) (number place own : ℕ) (h : IsDriveAt l n number place) (set : IsSetTo l n m number place) (at : slice_get l.cells own ≡ cell_of l h.owner.model) where
  abbrev changed_one : Instance
  changed_one = with_model set.sets.was set.cell.name

  stood_now : Stands m.instances number changed_one
  stood_now = subst (λ (is : List Instance). Stands is number changed_one) (sym (ap (λ (k : Netlist). k.instances) set.sets.now)) (stands_set n.instances number set.sets.was changed_one set.sets.stood)

  name_was : h.was.name ≡ h.owner.model
  name_was = (named l.cells h.owner.model h.was h.found).name

  pub drive_back : CanBeTimed l n → IsDriveAt l m number own
  drive_back timed = record {
    owner = changed_one;
    stands = stood_now;
    was = h.now;
    found = ap (λ (c : Cell). cell_of l c.name) (stands_same l.cells place set.cell h.now set.there h.there) ∙ h.listed;
    now = h.was;
    there = at ∙ h.found;
    listed = ap (cell_of l) name_was ∙ h.found;
    usable = usable_was l n number h.owner h.was timed h.stands h.found;
    drive = record { pins = sym h.drive.pins; function = turned h.was.function h.now.function h.drive.function };
  }

  made : List Instance → Netlist
  made is = record n { instances = is }

  pub back_is : (k : Netlist) → IsSetTo l m k number own → k ≡ n
  unfolding made
  back_is k back =
      let owner : h.owner ≡ set.sets.was = stands_same n.instances number h.owner set.sets.was h.stands set.sets.stood in
      let first : back.sets.was ≡ changed_one = stands_same m.instances number back.sets.was changed_one back.sets.stood stood_now in
      let cell : back.cell ≡ h.was = (let f : Some back.cell ≡ Some h.was = sym back.there ∙ at ∙ h.found in cc) in
      let name : back.cell.name ≡ set.sets.was.model = ap (λ (c : Cell). c.name) cell ∙ name_was ∙ ap (λ (o : Instance). o.model) owner in
      let last : with_model back.sets.was back.cell.name ≡ set.sets.was =
      ap (λ (o : Instance). with_model o back.cell.name) first ∙ ap (λ (t : List ℕ). with_model set.sets.was t) name in
      back.sets.now ∙ ap (λ (j : Netlist). record j { instances = slice_set j.instances number (with_model back.sets.was back.cell.name) }) set.sets.now
      ∙ ap (λ (o : Instance). made (slice_set (slice_set n.instances number changed_one) number o)) last
      ∙ ap made (set_twice n.instances number changed_one set.sets.was ∙ set_same n.instances number set.sets.was set.sets.stood)

-- ---- what becomes of the longest path

set_once : (l : Library) (n m k : Netlist) (number place : ℕ) → IsSetTo l n m number place → IsSetTo l n k number place → m ≡ k
set_once l n m k number place a b =
    let owner : a.sets.was ≡ b.sets.was = stands_same n.instances number a.sets.was b.sets.was a.sets.stood b.sets.stood in
    let cell : a.cell ≡ b.cell = stands_same l.cells place a.cell b.cell a.there b.there in
    a.sets.now
    ∙ ap (λ (o : Instance). record n { instances = slice_set n.instances number o }) (ap (λ (o : Instance). with_model o a.cell.name) owner ∙ ap (λ (c : Cell). with_model b.sets.was c.name) cell)
    ∙ sym b.sets.now

pub shorter_by : (l : Library) (n m : Netlist) (before after : ℕ) → IsWorst n l before → IsWorst m l after → after < before → IsShorter l n m
shorter_by l n m before after p q less b a r s =
    let one = worst_once n l before b p r in
    let two = worst_once m l a after s q in
    omega (arith, one, two, less)

pub idle_by : (l : Library) (n m : Netlist) (number place before after : ℕ) → IsSetTo l n m number place → IsWorst n l before → IsWorst m l after → before ≤ after → DoesNotHelp l n number place
idle_by l n m number place before after set p q less k time late again r s =
    let same = set_once l n m k number place set again in
    let one = worst_once n l time before r p in
    let two = worst_once k l after late (subst (λ (j : Netlist). IsWorst j l after) same q) s in
    omega (arith, one, two, less)

-- ---- the exchanges that a table lists

module _ (l : Library) (checked : IsChecked false l) (table : List (Vec ℕ)) (is : IsDriveTable l.cells table) (n : Netlist) (timed : CanBeTimed l n)
    (number own : ℕ) (owner : Instance) (stood : Stands n.instances number owner) (at : slice_get l.cells own ≡ cell_of l owner.model) where
  own_cell : (c : Cell) × (cell_of l owner.model ≡ Some c) × IsUsable c
  own_cell = timed.usable owner (number, stood)

  own_stands : Stands l.cells own own_cell.0
  own_stands = at ∙ own_cell.1

  pub drive_at : (k : ℕ) → IsThere (drives_at table own) k → IsDriveAt l n number k
  drive_at k t = by ((is.each own (slice_get_within l.cells own own_cell.0 own_stands) k).0 t) where
    by : (k < length l.cells) × IsOtherDrive l.cells own k → IsDriveAt l n number k
    by h = record {
      owner = owner;
      stands = stood;
      was = h.1.was;
      found = sym at ∙ h.1.stood;
      now = h.1.now;
      there = h.1.stands;
      listed = cell_there l.cells checked.names k h.1.now h.1.stands;
      usable = h.1.as_usable;
      drive = h.1.drive;
    }

  pub all_tried : ((k : ℕ) → IsThere (drives_at table own) k → DoesNotHelp l n number k) → IsDrivenAt l table n number
  all_tried idle m time late x e before after =
      let same : x.exchange.owner ≡ owner = stands_same n.instances number x.exchange.owner owner (subst (λ k. Stands n.instances k x.exchange.owner) e x.exchange.stands) stood in
      let here : Stands l.cells own x.exchange.was = at ∙ ap (λ (o : Instance). cell_of l o.model) (sym same) ∙ x.exchange.found in
      let from : x.from ≡ own = place_once l.cells checked.names x.from own x.exchange.was x.stood here in
      idle x.to (subst (λ k. IsThere (drives_at table k) x.to) from x.listed) m time late
      (record { cell = x.exchange.now; there = x.stands; sets = subst (λ k. SetsModel n m k x.exchange.now.name) e x.exchange.sets }) before after
