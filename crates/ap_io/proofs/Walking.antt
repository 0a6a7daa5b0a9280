-- Going over the lines of a file.
use Rattle.std.proofs.Common.{◌≡◌, ℕ, ◌+◌, ◌<◌, ◌^◌, ◌&&◌, ◌||◌, Bool, true, false, List, [], ◌∷◌, ◌++◌, length, map, bytes_eq, refl, sym, ap, ◌∙◌, arith, append_assoc, append-nil, subst, Option, None, Some, if◌then◌else◌}
use Rattle.std.specs.Prelude.{IsTrue, ◌↔◌}
use Rattle.std.specs.List.{list_all, list_any}
use Rattle.vlsi_base.specs.declared.fault.FaultKind.TheVariants as kind
use Rattle.vlsi_base.specs.declared.fault.ReadError.{ReadError}
use Rattle.vlsi_base.specs.declared.fault.ReadError.TheVariants as errors
use Rattle.sym_geom.specs.declared.item.Item.{Item}
use Rattle.vlsi_base.specs.Lines.{without_return}
use Rattle.ap_io.specs.declared.scale.Scale.{Scale}
use Rattle.ap_io.specs.declared.body.Body.{Body}
use Rattle.ap_io.specs.declared.fault.LineFault.{LineFault}
use Rattle.ap_io.specs.Instances.{is_known}
use Rattle.ap_io.specs.LineFaults.{is_blank_line, is_end, has_letter, name_on, names_on, is_taken, item_fault}
use Rattle.ap_io.specs.Taking.{Takes, TakesLine}
use Rattle.ap_io.specs.ApText.{AreItems, ends, blank, next}
use Rattle.ap_io.specs.Refusal.{is_empty, fault_on, limit_on, refusal_on, or_behind, end_refusal, items_refusal, IsRefusal}

-- lines that are left
pub some_left : (lines : List (List ℕ)) (e : Bool) → IsTrue e ↔ (lines ≡ []) → e ≡ false → is_empty (map without_return lines) ≡ false
some_left [] e over is = absurd (let t = over.1 refl in cc)
some_left (line ∷ lines) e over is = refl

pub limit_there : (line : ℕ) (lines : List (List ℕ)) (e : Bool) (error : ReadError) → IsTrue e ↔ (lines ≡ []) → e ≡ false → error ≡ limit_on line (map without_return lines) error
limit_there line lines e error over is = sym (ap (λ (b : Bool). if b then fault_on line kind.NoEnd else error) (some_left lines e over is))

-- ---- behind EOF

pub record WalksEnd (lines0 : List (List ℕ)) (before0 : ℕ) (lines : List (List ℕ)) (before : ℕ) : Type 0 where
  pub room : before + length lines < 2 ^ 32
  pub blanks : list_all is_blank_line (map without_return lines) ≡ list_all is_blank_line (map without_return lines0)
  pub refusal : end_refusal before (map without_return lines) ≡ end_refusal before0 (map without_return lines0)

pub end_begins : (lines : List (List ℕ)) (before : ℕ) → before + length lines < 2 ^ 32 → WalksEnd lines before lines before
end_begins lines before room = record { room = room; blanks = refl; refusal = refl }

end_blank : (before : ℕ) (line : List ℕ) (rest : List (List ℕ)) (e : Bool) → is_blank_line line ≡ e
    → end_refusal before (line ∷ rest) ≡ (if e then end_refusal (before + 1) rest else Some (fault_on (before + 1) kind.AfterEnd))
unfolding end_refusal
end_blank before line rest e is = ap (λ (b : Bool). if b then end_refusal (before + 1) rest else Some (fault_on (before + 1) kind.AfterEnd)) is

pub end_goes_on : (lines0 : List (List ℕ)) (before0 : ℕ) (lines : List (List ℕ)) (before : ℕ) (line : List ℕ) (rest : List (List ℕ))
    → WalksEnd lines0 before0 lines before → lines ≡ line ∷ rest → is_blank_line (without_return line) ≡ true → WalksEnd lines0 before0 rest (before + 1)
end_goes_on lines0 before0 lines before line rest w is blanks =
    let counts : length lines ≡ length (line ∷ rest) = ap length is in
    let room = w.room in
    record {
      room = omega (arith, counts, room);
      blanks = sym (ap (λ b. b && list_all is_blank_line (map without_return rest)) blanks) ∙ sym (ap (λ (ls : List (List ℕ)). list_all is_blank_line (map without_return ls)) is) ∙ w.blanks;
      refusal = sym (end_blank before (without_return line) (map without_return rest) true blanks) ∙ sym (ap (λ (ls : List (List ℕ)). end_refusal before (map without_return ls)) is) ∙ w.refusal;
    }

pub end_refuses : (lines0 : List (List ℕ)) (before0 : ℕ) (lines : List (List ℕ)) (before : ℕ) (line : List ℕ) (rest : List (List ℕ)) (e : ReadError)
    → WalksEnd lines0 before0 lines before → lines ≡ line ∷ rest → is_blank_line (without_return line) ≡ false → e ≡ fault_on (before + 1) kind.AfterEnd
    → end_refusal before0 (map without_return lines0) ≡ Some e
end_refuses lines0 before0 lines before line rest e w is some error =
    sym w.refusal ∙ ap (λ (ls : List (List ℕ)). end_refusal before (map without_return ls)) is ∙ end_blank before (without_return line) (map without_return rest) false some ∙ sym (ap Some error)

end_nothing : (before : ℕ) → end_refusal before [] ≡ None
unfolding end_refusal
end_nothing before = refl

pub end_done : (lines0 : List (List ℕ)) (before0 : ℕ) (lines : List (List ℕ)) (before : ℕ) → WalksEnd lines0 before0 lines before → lines ≡ []
    → (list_all is_blank_line (map without_return lines0) ≡ true) × (end_refusal before0 (map without_return lines0) ≡ None)
end_done lines0 before0 lines before w is = (
  sym w.blanks ∙ ap (λ (ls : List (List ℕ)). list_all is_blank_line (map without_return ls)) is,
  sym w.refusal ∙ ap (λ (ls : List (List ℕ)). end_refusal before (map without_return ls)) is ∙ end_nothing before,
)

-- ---- items

pub record Walks (scale : Scale) (lines0 : List (List ℕ)) (before0 : ℕ) (body : Body) (lines : List (List ℕ)) (before : ℕ) : Type 0 where
  pub names : List (List ℕ)
  pub room : before + length lines < 2 ^ 32
  pub known : (name : List ℕ) → is_known name body.names ≡ list_any (bytes_eq name) names
  pub refusal : items_refusal scale before names (map without_return lines) ≡ items_refusal scale before0 [] (map without_return lines0)
  pub items : (more : List Item) → AreItems scale names (map without_return lines) more → AreItems scale [] (map without_return lines0) (body.items ++ more)

pub begins : (scale : Scale) (lines : List (List ℕ)) (before : ℕ) (body : Body) → before + length lines < 2 ^ 32 → body.items ≡ []
    → ((name : List ℕ) → is_known name body.names ≡ false) → Walks scale lines before body lines before
begins scale lines before body room none unknown = record {
  names = [];
  room = room;
  known = unknown;
  refusal = refl;
  items = λ more are. rw none are;
}

abbrev by_end : Scale → ℕ → List (List ℕ) → List ℕ → List (List ℕ) → Bool → Option LineFault → Option ReadError
by_end scale before names line rest e fault =
    if e then end_refusal (before + 1) rest else or_behind (before + 1) rest fault (items_refusal scale (before + 1) (names ++ names_on line) rest)

one_line : (scale : Scale) (before : ℕ) (names : List (List ℕ)) (line : List ℕ) (rest : List (List ℕ)) (e : Bool) (fault : Option LineFault)
    → is_end line ≡ e → item_fault scale (is_taken names line) line ≡ fault → items_refusal scale before names (line ∷ rest) ≡ by_end scale before names line rest e fault
unfolding items_refusal
one_line scale before names line rest e fault is found = ap (λ (b : Bool). by_end scale before names line rest b (item_fault scale (is_taken names line) line)) is ∙ ap (by_end scale before names line rest e) found

-- the fault that was found is that where the names are those of the list
same_fault : (scale : Scale) (body : Body) (names : List (List ℕ)) (line : List ℕ) (fault : Option LineFault)
    → ((name : List ℕ) → is_known name body.names ≡ list_any (bytes_eq name) names)
    → fault ≡ item_fault scale (has_letter 73 line && is_known (name_on line) body.names) line → item_fault scale (is_taken names line) line ≡ fault
same_fault scale body names line fault known found = sym (found ∙ ap (λ (b : Bool). item_fault scale (has_letter 73 line && b) line) (known (name_on line)))

any_append : (p : List ℕ → Bool) (xs ys : List (List ℕ)) → list_any p (xs ++ ys) ≡ list_any p ys || list_any p xs
any_append p [] ys = sym (or_none (list_any p ys)) where
  or_none : (b : Bool) → b || false ≡ b
  or_none true = refl
  or_none false = refl
any_append p (x ∷ xs) ys = ap (λ b. p x || b) (any_append p xs ys) ∙ turned (p x) (list_any p ys) (list_any p xs) where
  turned : (a b c : Bool) → a || (b || c) ≡ b || (a || c)
  turned true true c = refl
  turned true false c = refl
  turned false true c = refl
  turned false false c = refl

one_name : (o name : List ℕ) (i : Bool) → list_any (bytes_eq o) (if i then name ∷ [] else []) ≡ i && bytes_eq o name
one_name o name true = or_none (bytes_eq o name) where
  or_none : (b : Bool) → b || false ≡ b
  or_none true = refl
  or_none false = refl
one_name o name false = refl

append_none : (xs : List (List ℕ)) → xs ++ [] ≡ xs
append_none [] = refl
append_none (x ∷ xs) = ap (λ (ys : List (List ℕ)). x ∷ ys) (append_none xs)

takes_by : (scale : Scale) (line : List ℕ) (old new : Body) (e : Bool) → is_blank_line line ≡ e → Takes scale line old new → TakesLine e scale line old new
takes_by scale line old new e is takes = let P : Bool → Type 0 = λ b. TakesLine b scale line old new in subst P is takes

-- the lines behind one, as items behind those that were there
abbrev IsNext : Scale → List (List ℕ) → List (List ℕ) → Body → List (List ℕ) → List (List ℕ) → Type 0
IsNext scale lines0 lines new names rest = (more : List Item) → AreItems scale names (map without_return rest) more → AreItems scale [] (map without_return lines0) (new.items ++ more)

on_line : (i : Bool) (line : List ℕ) (e : Bool) → is_blank_line line ≡ e → names_on line ≡ (if e then [] else if has_letter 73 line then name_on line ∷ [] else [])
on_line i line e is = ap (λ (b : Bool). if b then [] else if has_letter 73 line then name_on line ∷ [] else []) is

walks_blank : (scale : Scale) (lines0 : List (List ℕ)) (before0 : ℕ) (body new : Body) (lines : List (List ℕ)) (before : ℕ) (line : List ℕ) (rest : List (List ℕ))
    (w : Walks scale lines0 before0 body lines before) → lines ≡ line ∷ rest → is_blank_line (without_return line) ≡ true → before + 1 + length rest < 2 ^ 32
    → items_refusal scale (before + 1) (w.names ++ names_on (without_return line)) (map without_return rest) ≡ items_refusal scale before0 [] (map without_return lines0)
    → body ≡ new → Walks scale lines0 before0 new rest (before + 1)
walks_blank scale lines0 before0 body new lines before line rest w is is_blank room refusals same =
    let on = on_line true (without_return line) true is_blank in
    let all : w.names ++ names_on (without_return line) ≡ w.names = ap (λ (ns : List (List ℕ)). w.names ++ ns) on ∙ append_none w.names in
    record {
      names = w.names;
      room = room;
      known = λ name. sym (ap (λ (b : Body). is_known name b.names) same) ∙ w.known name;
      refusal = sym (ap (λ (ns : List (List ℕ)). items_refusal scale (before + 1) ns (map without_return rest)) all) ∙ refusals;
      items = λ more are.
          let P : List (List ℕ) → Type 0 = λ ls. AreItems scale w.names (map without_return ls) more in
          let Q : Body → Type 0 = λ b. AreItems scale [] (map without_return lines0) (b.items ++ more) in
          subst Q same (w.items more (subst P (sym is) (blank is_blank are)));
    }

walks_item : (scale : Scale) (lines0 : List (List ℕ)) (before0 : ℕ) (body new : Body) (lines : List (List ℕ)) (before : ℕ) (line : List ℕ) (rest : List (List ℕ))
    (w : Walks scale lines0 before0 body lines before) → lines ≡ line ∷ rest → is_blank_line (without_return line) ≡ false → before + 1 + length rest < 2 ^ 32
    → item_fault scale (is_taken w.names (without_return line)) (without_return line) ≡ None
    → items_refusal scale (before + 1) (w.names ++ names_on (without_return line)) (map without_return rest) ≡ items_refusal scale before0 [] (map without_return lines0)
    → TakesLine false scale (without_return line) body new → Walks scale lines0 before0 new rest (before + 1)
walks_item scale lines0 before0 body new lines before line rest w is some room clean refusals takes =
    let l = without_return line in
    let on = on_line true (without_return line) false some in
    let one = takes.0.0 in
    record {
      names = w.names ++ names_on (without_return line);
      room = room;
      known = λ name. takes.1 name ∙ ap (λ b. (has_letter 73 l && bytes_eq name (name_on l)) || b) (w.known name)
          ∙ ap (λ b. b || list_any (bytes_eq name) w.names) (sym (one_name name (name_on l) (has_letter 73 l)) ∙ sym (ap (list_any (bytes_eq name)) on))
          ∙ sym (any_append (bytes_eq name) w.names (names_on (without_return line)));
      refusal = refusals;
      items = λ more are.
          let P : List (List ℕ) → Type 0 = λ ls. AreItems scale w.names (map without_return ls) (one ∷ more) in
          let Q : List Item → Type 0 = λ is. AreItems scale [] (map without_return lines0) is in
          let joined : body.items ++ (one ∷ more) ≡ new.items ++ more = sym (append_assoc body.items (one ∷ []) more) ∙ sym (ap (λ (is : List Item). is ++ more) takes.0.2) in
          subst Q joined (w.items (one ∷ more) (subst P (sym is) (next some clean takes.0.1 are)));
    }

by_blank : (scale : Scale) (lines0 : List (List ℕ)) (before0 : ℕ) (body new : Body) (lines : List (List ℕ)) (before : ℕ) (line : List ℕ) (rest : List (List ℕ))
    (w : Walks scale lines0 before0 body lines before) (e : Bool) → is_blank_line (without_return line) ≡ e → lines ≡ line ∷ rest → before + 1 + length rest < 2 ^ 32
    → item_fault scale (is_taken w.names (without_return line)) (without_return line) ≡ None
    → items_refusal scale (before + 1) (w.names ++ names_on (without_return line)) (map without_return rest) ≡ items_refusal scale before0 [] (map without_return lines0)
    → TakesLine e scale (without_return line) body new → Walks scale lines0 before0 new rest (before + 1)
by_blank scale lines0 before0 body new lines before line rest w true is_e is room clean refusals takes = walks_blank scale lines0 before0 body new lines before line rest w is is_e room refusals takes
by_blank scale lines0 before0 body new lines before line rest w false is_e is room clean refusals takes = walks_item scale lines0 before0 body new lines before line rest w is is_e room clean refusals takes

pub goes_on : (scale : Scale) (lines0 : List (List ℕ)) (before0 : ℕ) (body new : Body) (lines : List (List ℕ)) (before : ℕ) (line : List ℕ) (rest : List (List ℕ)) (fault : Option LineFault)
    → Walks scale lines0 before0 body lines before → lines ≡ line ∷ rest → is_end (without_return line) ≡ false
    → fault ≡ item_fault scale (has_letter 73 (without_return line) && is_known (name_on (without_return line)) body.names) (without_return line)
    → fault ≡ None → Takes scale (without_return line) body new → Walks scale lines0 before0 new rest (before + 1)
goes_on scale lines0 before0 body new lines before line rest fault w is more found none takes =
    let counts : length lines ≡ length (line ∷ rest) = ap length is in
    let r = w.room in
    let clean = same_fault scale body w.names (without_return line) fault w.known found ∙ none in
    by_blank scale lines0 before0 body new lines before line rest w (is_blank_line (without_return line)) refl is (omega (arith, counts, r)) clean
    (sym (one_line scale before w.names (without_return line) (map without_return rest) false None more clean)
    ∙ sym (ap (λ (ls : List (List ℕ)). items_refusal scale before w.names (map without_return ls)) is) ∙ w.refusal)
    (takes_by scale (without_return line) body new (is_blank_line (without_return line)) refl takes)

total_at : (scale : Scale) (lines0 : List (List ℕ)) (before0 : ℕ) (body : Body) (lines : List (List ℕ)) (before : ℕ) (line : List ℕ) (rest : List (List ℕ))
    (w : Walks scale lines0 before0 body lines before) → lines ≡ line ∷ rest
    → items_refusal scale before0 [] (map without_return lines0) ≡ items_refusal scale before w.names (without_return line ∷ map without_return rest)
total_at scale lines0 before0 body lines before line rest w is = sym w.refusal ∙ ap (λ (ls : List (List ℕ)). items_refusal scale before w.names (map without_return ls)) is

is_refusal : (e : ReadError) (o : Option ReadError) → o ≡ Some e → IsRefusal e o
is_refusal errors.Memory o is = tt
is_refusal (errors.Input f) o is = is
is_refusal (errors.Limit l) o is = is

pub refuses : (scale : Scale) (lines0 : List (List ℕ)) (before0 : ℕ) (body : Body) (lines : List (List ℕ)) (before : ℕ) (line : List ℕ) (rest : List (List ℕ)) (found : Option LineFault) (fault : LineFault) (e : ReadError)
    → Walks scale lines0 before0 body lines before → lines ≡ line ∷ rest → is_end (without_return line) ≡ false
    → found ≡ item_fault scale (has_letter 73 (without_return line) && is_known (name_on (without_return line)) body.names) (without_return line)
    → found ≡ Some fault → e ≡ refusal_on (before + 1) (map without_return rest) fault → IsRefusal e (items_refusal scale before0 [] (map without_return lines0))
refuses scale lines0 before0 body lines before line rest found fault e w is more so some error =
    is_refusal e (items_refusal scale before0 [] (map without_return lines0))
    (total_at scale lines0 before0 body lines before line rest w is
    ∙ one_line scale before w.names (without_return line) (map without_return rest) false (Some fault) more (same_fault scale body w.names (without_return line) found w.known so ∙ some)
    ∙ sym (ap Some error))

at_end : (scale : Scale) (lines0 : List (List ℕ)) (before0 : ℕ) (body : Body) (lines : List (List ℕ)) (before : ℕ) (line : List ℕ) (rest : List (List ℕ))
    (w : Walks scale lines0 before0 body lines before) → lines ≡ line ∷ rest → is_end (without_return line) ≡ true
    → items_refusal scale before0 [] (map without_return lines0) ≡ end_refusal (before + 1) (map without_return rest)
at_end scale lines0 before0 body lines before line rest w is ended =
    total_at scale lines0 before0 body lines before line rest w is
    ∙ one_line scale before w.names (without_return line) (map without_return rest) true (item_fault scale (is_taken w.names (without_return line)) (without_return line)) ended refl

pub end_none : (scale : Scale) (lines0 : List (List ℕ)) (before0 : ℕ) (body : Body) (lines : List (List ℕ)) (before : ℕ) (line : List ℕ) (rest : List (List ℕ))
    → Walks scale lines0 before0 body lines before → lines ≡ line ∷ rest → is_end (without_return line) ≡ true → end_refusal (before + 1) (map without_return rest) ≡ None
    → items_refusal scale before0 [] (map without_return lines0) ≡ None
end_none scale lines0 before0 body lines before line rest w is ended none = at_end scale lines0 before0 body lines before line rest w is ended ∙ none

pub end_some : (scale : Scale) (lines0 : List (List ℕ)) (before0 : ℕ) (body : Body) (lines : List (List ℕ)) (before : ℕ) (line : List ℕ) (rest : List (List ℕ)) (e : ReadError)
    → Walks scale lines0 before0 body lines before → lines ≡ line ∷ rest → is_end (without_return line) ≡ true → end_refusal (before + 1) (map without_return rest) ≡ Some e
    → IsRefusal e (items_refusal scale before0 [] (map without_return lines0))
end_some scale lines0 before0 body lines before line rest e w is ended some =
    is_refusal e (items_refusal scale before0 [] (map without_return lines0)) (at_end scale lines0 before0 body lines before line rest w is ended ∙ some)

pub end_items : (scale : Scale) (lines0 : List (List ℕ)) (before0 : ℕ) (body : Body) (lines : List (List ℕ)) (before : ℕ) (line : List ℕ) (rest : List (List ℕ)) (items : List Item)
    → Walks scale lines0 before0 body lines before → lines ≡ line ∷ rest → is_end (without_return line) ≡ true → IsTrue (list_all is_blank_line (map without_return rest)) → items ≡ body.items
    → AreItems scale [] (map without_return lines0) items
end_items scale lines0 before0 body lines before line rest items w is ended blanks same =
    let P : List (List ℕ) → Type 0 = λ ls. AreItems scale w.names (map without_return ls) [] in
    let Q : List Item → Type 0 = λ is. AreItems scale [] (map without_return lines0) is in
    subst Q (append-nil body.items ∙ sym same) (w.items [] (subst P (sym is) (ends ended blanks)))

nothing_left : (scale : Scale) (before : ℕ) (names : List (List ℕ)) → items_refusal scale before names [] ≡ Some (fault_on before kind.NoEnd)
unfolding items_refusal
nothing_left scale before names = refl

pub no_end : (scale : Scale) (lines0 : List (List ℕ)) (before0 : ℕ) (body : Body) (lines : List (List ℕ)) (before : ℕ) (e : ReadError)
    → Walks scale lines0 before0 body lines before → lines ≡ [] → e ≡ fault_on before kind.NoEnd → IsRefusal e (items_refusal scale before0 [] (map without_return lines0))
no_end scale lines0 before0 body lines before e w is error =
    is_refusal e (items_refusal scale before0 [] (map without_return lines0))
    (sym w.refusal ∙ ap (λ (ls : List (List ℕ)). items_refusal scale before w.names (map without_return ls)) is ∙ nothing_left scale before w.names ∙ sym (ap Some error))
