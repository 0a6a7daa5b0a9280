-- The instances of a netlist with buffers and other drives.
use Rattle.std.proofs.Common.{◌≡◌, ◌⊎◌, inl, inr, ℕ, zero, suc, ◌≤◌, ◌<◌, false, List, [], ◌∷◌, ◌++◌, map, length, refl, sym, ◌∙◌, ap, subst, arith}
use Rattle.std.proofs.lemmas.List.{map-append}
use Rattle.vlsi_base.specs.Member.{In}
use Rattle.cell_model.specs.Cell.{Cell}
use Rattle.cell_model.specs.Library.{Library}
use Rattle.cell_model.proofs.Members.{In-map_back}
use Rattle.cell_checks.specs.Checked.{IsChecked as HasPassed}
use Rattle.net_core.specs.Places.{Stands}
use Rattle.net_core.specs.Netlist.{Instance, Netlist}
use Rattle.loon_buffer.specs.Drives.{IsChosenFor}
use Rattle.loon_fanout.specs.Sinks.{Wired, sinks, wired_of}
use Rattle.loon_wiring.specs.Repeaters.{Repeater}
use Rattle.loon_fanout.specs.Limited.{IsLimited, within, round, IsBuffered}
use Rattle.loon_fanout.specs.Laws.{gate_named, StaysBeside, LimitedStaysBeside}
use Rattle.loon_drive.specs.Driven.{most_sinks, IsDrivenFrom}
use Rattle.loon_drive.specs.Laws.{IsGrown, DrivenIsGrown, DrivenIsChosen, BuffersHaveFewPins}
use Rattle.loon_drive.proofs.Lists.{stands_in}
use Rattle.loon_drive.proofs.Exchanged.{chosen_of, back_at, ports_same, name_same, same_names}
use Rattle.loon_drive.proofs.Pins.{repeater_pins}

-- ---- lists

left_of : {A : Type 0} (xs ys : List A) (k : ℕ) (x : A) → Stands xs k x → Stands (xs ++ ys) k x
left_of [] ys k x s = absurd cc
left_of (y ∷ xs) ys zero x s = s
left_of (y ∷ xs) ys (suc k) x s = left_of xs ys k x s

behind : {A : Type 0} (xs ys : List A) (k : ℕ) (x : A) → length xs ≤ k → Stands (xs ++ ys) k x → In x ys
behind [] ys k x far s = stands_in ys k x s
behind (y ∷ xs) ys zero x far s = absurd (omega (arith, far))
behind (y ∷ xs) ys (suc k) x far s = behind xs ys k x (omega (arith, far)) s

gate_names : (c : Cell) (names : List (List ℕ)) → map (λ (i : Instance). i.name) (map (gate_named c) names) ≡ names
gate_names c [] = refl
gate_names c (name ∷ names) = ap (λ (ns : List (List ℕ)). name ∷ ns) (gate_names c names)

-- ---- gates are put in where a net has too many sinks

was_crowded : (l : Library) (limit : ℕ) (b : Repeater) (names : List (List ℕ)) (n k : Wired) → IsLimited l limit b names n k
    → (names ≡ []) ⊎ ((class : ℕ) × (limit < length (sinks l n class)))
was_crowded l limit b _ n k (within few) = inl refl
was_crowded l limit b _ n k (round class rows crowded earlier groups gates later) = inr (class, crowded)

-- the pins of a gate that was put in
gate_pins : (n : Netlist) (l : Library) (limit : ℕ) (r : Netlist) (b : IsBuffered n l limit r) → HasPassed false l → (i : Instance)
    → In i (map (gate_named b.repeater.cell) b.names) → length i.pins ≡ 4
gate_pins n l limit r b passed i at = elim (was_crowded l limit b.repeater b.names (wired_of n) b.wired b.limited) [
  | inl none ↦ absurd (nothing (subst (λ (names : List (List ℕ)). In i (map (gate_named b.repeater.cell) names)) none at))
  | inr crowded ↦
      let made = In-map_back (gate_named b.repeater.cell) i b.names at in
      ap (λ (x : Instance). length x.pins) (sym made.2) ∙ repeater_pins l b.repeater passed (b.chosen crowded)
] where
  nothing : In i [] → ⊥
  nothing h = elim h [ ]

-- ---- the whole

module _ (law : LimitedStaysBeside) (n : Netlist) (l : Library) (fanout : ℕ) (k : Netlist) (delay : ℕ) (d : IsDrivenFrom n l fanout k delay) where
  beside : StaysBeside l (most_sinks fanout) d.is_buffered.repeater d.is_buffered.names (wired_of n) d.is_buffered.wired
  beside = law l (most_sinks fanout) d.is_buffered.repeater d.is_buffered.names (wired_of n) d.is_buffered.wired d.is_buffered.limited

  abbrev gates : List Instance
  gates = map (gate_named d.is_buffered.repeater.cell) d.is_buffered.names

  instances_are : d.buffered.instances ≡ n.instances ++ gates
  instances_are = d.is_buffered.is.instances ∙ beside.instances

  grown : IsGrown n k
  grown = record {
    name = name_same l d.buffered k d.exchanged ∙ d.is_buffered.name;
    ports = ports_same l d.buffered k d.exchanged ∙ d.is_buffered.is.ports ∙ beside.ports;
    buffers = length d.is_buffered.names;
    names = same_names l d.buffered.instances k.instances (chosen_of l d.buffered k d.exchanged)
        ∙ ap (map (λ (i : Instance). i.name)) instances_are
        ∙ map-append (λ (i : Instance). i.name) n.instances gates
        ∙ ap (λ (names : List (List ℕ)). map (λ (i : Instance). i.name) n.instances ++ names)
        (gate_names d.is_buffered.repeater.cell d.is_buffered.names ∙ d.is_buffered.named);
  }

  chosen_at : (place : ℕ) (i j : Instance) → Stands n.instances place i → Stands k.instances place j → IsChosenFor l i j
  chosen_at place i j was now =
      d.exchanged.each place i j
      (subst (λ (is : List Instance). Stands is place i) (sym instances_are) (left_of n.instances gates place i was))
      now

  pins_at : (place : ℕ) (j : Instance) → HasPassed false l → length n.instances ≤ place → Stands k.instances place j → length j.pins ≡ 4
  pins_at place j passed far now =
      let b = back_at l d.buffered.instances k.instances (chosen_of l d.buffered k d.exchanged) place j now in
      ap (λ (x : Instance). length x.pins) b.2.same
      ∙ gate_pins n l (most_sinks fanout) d.buffered d.is_buffered passed b.0
      (behind n.instances gates place b.0 far (subst (λ (is : List Instance). Stands is place b.0) instances_are b.1))

pub driven_is_grown : LimitedStaysBeside → DrivenIsGrown
driven_is_grown law n l fanout k delay d = grown law n l fanout k delay d

pub driven_is_chosen : LimitedStaysBeside → DrivenIsChosen
driven_is_chosen law n l fanout k delay place i j d was now = chosen_at law n l fanout k delay d place i j was now

pub buffers_have_few_pins : LimitedStaysBeside → BuffersHaveFewPins
buffers_have_few_pins law n l fanout k delay place j passed d far now = pins_at law n l fanout k delay d place j passed far now
