-- What is compared and filled in, by what the outputs have.
use Rattle.std.proofs.Common.{◌≡◌, ℕ, Bool, List, [], ◌∷◌, ◌++◌, map, refl, ap, ◌∙◌}
use Rattle.vlsi_base.specs.declared.name.Name.{Name}
use Rattle.vlsi_base.specs.declared.name.Dir.{Dir}
use Rattle.vlsi_base.specs.declared.name.Dir.TheVariants as dir
use Rattle.machine_core.specs.Order.{In, here, there}
use Rattle.pat_meaning.specs.declared.patterns.Column.{Column}
use Rattle.pat_meaning.specs.declared.patterns.Value.{Value}
use Rattle.pat_meaning.specs.declared.patterns.Value.TheVariants.{Digits, Any}
use Rattle.pat_meaning.specs.Columns.{column_names}
use Rattle.pat_meaning.specs.Simulation.{Compared, compared_bits, compared_value, compared_values, filled_value, filled_values}

-- two functions agree on the names of outputs
abbrev pub AgreeOnOutputs : (Name → Bool) → (Name → Bool) → List Column → Type 0
AgreeOnOutputs f g columns = (c : Column) → In c columns → c.dir ≡ dir.Out → (name : Name) → In name (column_names c) → f name ≡ g name

same_bits : (f g : Name → Bool) (n : ℕ) (names : List Name) (bits : List Bool) → ((name : Name) → In name names → f name ≡ g name) → compared_bits f n names bits ≡ compared_bits g n names bits
same_bits f g n [] bits h = refl
same_bits f g n (name ∷ names) [] h = refl
same_bits f g n (name ∷ names) (b ∷ bits) h =
    let made : Bool → Compared = λ o. record { pattern = n; name = name; expected = b; observed = o } in
    ap (λ o. made o ∷ compared_bits f n names bits) (h name here) ∙ ap (λ xs. made (g name) ∷ xs) (same_bits f g n names bits (λ x i. h x (there i)))

same_value : (f g : Name → Bool) (n : ℕ) (d : Dir) (names : List Name) (v : Value) → (d ≡ dir.Out → (name : Name) → In name names → f name ≡ g name) → compared_value f n d names v ≡ compared_value g n d names v
same_value f g n dir.In names v h = refl
same_value f g n dir.Out names (Digits bits) h = same_bits f g n names bits (h refl)
same_value f g n dir.Out names Any h = refl

pub same_compared : (f g : Name → Bool) (n : ℕ) (columns : List Column) (values : List Value) → AgreeOnOutputs f g columns → compared_values f n columns values ≡ compared_values g n columns values
same_compared f g n [] values h = refl
same_compared f g n (c ∷ cs) [] h = refl
same_compared f g n (c ∷ cs) (v ∷ values) h =
    ap (λ xs. xs ++ compared_values f n cs values) (same_value f g n c.dir (column_names c) v (h c here))
    ∙ ap (λ xs. compared_value g n c.dir (column_names c) v ++ xs) (same_compared f g n cs values (λ d i. h d (there i)))

same_names : (f g : Name → Bool) (names : List Name) → ((name : Name) → In name names → f name ≡ g name) → map f names ≡ map g names
same_names f g [] h = refl
same_names f g (n ∷ names) h = ap (λ b. b ∷ map f names) (h n here) ∙ ap (λ bs. g n ∷ bs) (same_names f g names (λ x i. h x (there i)))

same_fill : (f g : Name → Bool) (c : Column) (v : Value) → (c.dir ≡ dir.Out → (name : Name) → In name (column_names c) → f name ≡ g name) → filled_value f c v ≡ filled_value g c v
same_fill f g c v h = by c.dir refl where
  by : (d : Dir) → c.dir ≡ d → filled_value f c v ≡ filled_value g c v
  by dir.In e = rw e refl
  by dir.Out e = rw e (ap Digits (same_names f g (column_names c) (h e)))

pub same_filled : (f g : Name → Bool) (columns : List Column) (values : List Value) → AgreeOnOutputs f g columns → filled_values f columns values ≡ filled_values g columns values
same_filled f g [] values h = refl
same_filled f g (c ∷ cs) [] h = refl
same_filled f g (c ∷ cs) (v ∷ values) h =
    ap (λ x. x ∷ filled_values f cs values) (same_fill f g c v (h c here)) ∙ ap (λ xs. filled_value g c v ∷ xs) (same_filled f g cs values (λ d i. h d (there i)))
