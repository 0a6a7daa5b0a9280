-- Nets that are built one after another over places.
use Rattle.std.proofs.Common.{min, ◌≡◌, ℕ, ◌+◌, ◌-◌, ◌*◌, ◌≤◌, List, [], ◌∷◌, ◌++◌, length, map, take, drop, None, refl, sym, ap, subst, ◌∙◌, arith}
use Rattle.std.specs.Prelude.{slice_range}
use Rattle.std.proofs.Math.Nat.{suc-mul, zero-mul}
use Rattle.std.proofs.Math.Numerals.{suc-eq-add-one}
use Rattle.std.proofs.lemmas.List.{append-nil, length_push, length-map, length-take, length-drop, map-append, take-append-drop, take-take, drop-take, take_all}
use Rattle.std.proofs.lemmas.List.Concat.{flat_map-append}
use Rattle.std.proofs.lemmas.List.Elements.{All-nil, All-push}
use Rattle.grid_core.specs.declared.grid.Node.{Node}
use Rattle.maze_nets.specs.declared.points.NetPoints.{NetPoints}
use Rattle.maze_probe.specs.Spots.{terminal_at, AreNetsOn}

-- so many nets stand on the first places
pub record AreBuilt (columns pins : ℕ) (places : List ℕ) (at : ℕ) (nets : List NetPoints) : Type 0 where
  pub many : length nets ≡ at
  pub on : AreNetsOn columns pins (take (at * pins) places) nets

take_further : (xs : List ℕ) (m n : ℕ) → take (m + n) xs ≡ take m xs ++ take n (drop m xs)
take_further xs m n =
    sym (take-append-drop m (take (m + n) xs)) ∙ ap (λ (ys : List ℕ). ys ++ drop m (take (m + n) xs)) (take-take m (m + n) xs (omega arith))
    ∙ ap (λ (ys : List ℕ). take m xs ++ ys) (drop-take m n xs)

abbrev terminals_of : NetPoints → List Node
terminals_of net = net.terminals.items

pub built_none : (columns pins : ℕ) (places : List ℕ) → AreBuilt columns pins places 0 []
built_none columns pins places = record {
  many = refl;
  on = record {
    portless = All-nil (λ (net : NetPoints). net.port ≡ None);
    sized = All-nil (λ (net : NetPoints). length net.terminals.items ≡ pins);
    terminals = let e : 0 * pins ≡ 0 = zero-mul pins in sym (ap (λ (n : ℕ). map (terminal_at columns) (take n places)) e);
  };
}

pub built_more : (columns pins : ℕ) (places : List ℕ) (at : ℕ) (nets : List NetPoints) (net : NetPoints) → at * pins + pins ≤ length places
    → AreBuilt columns pins places at nets → net.port ≡ None
    → net.terminals.items ≡ map (terminal_at columns) (slice_range places (at * pins) (at * pins + pins)) → AreBuilt columns pins places (at + 1) (nets ++ net ∷ [])
built_more columns pins places at nets net room b port terminals =
    let t : ℕ → Node = terminal_at columns in
    let width : at * pins + pins - at * pins ≡ pins = omega arith in
    let more : (at + 1) * pins ≡ at * pins + pins = ap (λ (k : ℕ). k * pins) (sym (suc-eq-add-one at)) ∙ suc-mul at pins in
    let own : terminals_of net ≡ map t (take pins (drop (at * pins) places)) = terminals ∙ ap (λ (n : ℕ). map t (take n (drop (at * pins) places))) width in
    let size : length (terminals_of net) ≡ pins =
    ap (λ (ys : List Node). length ys) own ∙ length-map (take pins (drop (at * pins) places)) t ∙ length-take pins (drop (at * pins) places)
    ∙ ap (λ (n : ℕ). min pins n) (length-drop (at * pins) places) ∙ omega (arith, room) in
    let on = b.on in
    record {
      many = length_push nets net ∙ ap (λ (n : ℕ). n + 1) b.many;
      on = record {
        portless = All-push (λ (net : NetPoints). net.port ≡ None) nets net on.portless port;
        sized = All-push (λ (net : NetPoints). length net.terminals.items ≡ pins) nets net on.sized size;
        terminals = flat_map-append terminals_of nets (net ∷ []) ∙ ap (λ (ys : List Node). ys ++ (terminals_of net ++ [])) on.terminals
            ∙ ap (λ (ys : List Node). map t (take (at * pins) places) ++ ys) (append-nil (terminals_of net) ∙ own)
            ∙ sym (map-append t (take (at * pins) places) (take pins (drop (at * pins) places)))
            ∙ ap (λ (xs : List ℕ). map t xs) (sym (take_further places (at * pins) pins))
            ∙ ap (λ (n : ℕ). map t (take n places)) (sym more);
      };
    }

pub built_all : (columns pins : ℕ) (places : List ℕ) (at : ℕ) (nets : List NetPoints) → length places ≤ at * pins → AreBuilt columns pins places at nets → AreNetsOn columns pins places nets
built_all columns pins places at nets h b = subst (λ (xs : List ℕ). AreNetsOn columns pins xs nets) (take_all (at * pins) places h) b.on
