-- Loops over drivers.
use Rattle.std.proofs.Common.{◌≡◌, ℕ, List, [], ◌++◌, Some, None, refl, sym, ap, subst, ◌∙◌, append_assoc, append-nil}
use Rattle.std.specs.BTreeSet.{BTreeSet}
use Rattle.source_checks.specs.declared.symbol_table.Symbol.{Symbol}
use Rattle.source_checks.specs.declared.drivers.NameFault.{NameFault}
use Rattle.source_checks.specs.Drivers.{Driver}
use Rattle.source_checks.specs.Driving.{Drives}
use Rattle.source_checks.proofs.Driving.{drives_none, drives_stops, drives_on}

-- no fault is among the drivers in front of the rest, and the set has their bits
pub record DrivenSoFar (known : List Symbol) (old now : BTreeSet (ℕ × ℕ)) (rest total : List Driver) : Type 0 where
  pub front : List Driver
  pub joins : front ++ rest ≡ total
  pub none : Drives known old now front None

pub begins : (known : List Symbol) (old : BTreeSet (ℕ × ℕ)) (total : List Driver) → DrivenSoFar known old old total total
begins known old total = record { front = []; joins = refl; none = drives_none known old }

pub goes_on : (known : List Symbol) (old now new : BTreeSet (ℕ × ℕ)) (here rest all total : List Driver) → DrivenSoFar known old now all total → all ≡ here ++ rest → Drives known now new here None → DrivenSoFar known old new rest total
goes_on known old now new here rest all total before is none = record {
  front = before.front ++ here;
  joins = append_assoc before.front here rest ∙ ap (λ (ds : List Driver). before.front ++ ds) (sym is) ∙ before.joins;
  none = drives_on known old now new before.front here None before.none none;
}

pub stops : (known : List Symbol) (old now new : BTreeSet (ℕ × ℕ)) (here rest all total : List Driver) (f : NameFault) → DrivenSoFar known old now all total → all ≡ here ++ rest → Drives known now new here (Some f) → Drives known old new total (Some f)
stops known old now new here rest all total f before is found =
    let whole : before.front ++ (here ++ rest) ≡ total = ap (λ (ds : List Driver). before.front ++ ds) (sym is) ∙ before.joins in
    subst (λ (ds : List Driver). Drives known old new ds (Some f)) whole (drives_on known old now new before.front (here ++ rest) (Some f) before.none (drives_stops known now new new here rest f found))

pub ends : (known : List Symbol) (old now : BTreeSet (ℕ × ℕ)) (rest total : List Driver) → DrivenSoFar known old now rest total → rest ≡ [] → Drives known old now total None
ends known old now rest total before done =
    let whole : before.front ≡ total = sym (append-nil before.front) ∙ ap (λ (ds : List Driver). before.front ++ ds) (sym done) ∙ before.joins in
    subst (λ (ds : List Driver). Drives known old now ds None) whole before.none
