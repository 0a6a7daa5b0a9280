-- Values in a loop, and tokens that are passed over in one.
use Rattle.std.proofs.Common.{◌≡◌, ℕ, ◌+◌, ◌<◌, ◌≤◌, List, [], ◌∷◌, ◌++◌, length, drop, get_or, Ok, Err, refl, sym, ap, ◌∙◌, append_assoc, append-nil}
use Rattle.std.proofs.lemmas.List.{at_drop_more, drop_all}
use Rattle.grammar_theory.specs.declared.refusal.Stop.{Stop}
use Rattle.grammar_theory.specs.declared.refusal.Stop.TheVariants as stop
use Rattle.vhdl_token.specs.declared.token.Sign.TheVariants as sign
use Rattle.vhdl_token.specs.declared.token.PlacedToken.{PlacedToken}
use Rattle.grammar_theory.specs.declared.form.Form.TheVariants as form
use Rattle.grammar_theory.specs.Outcome.{At, Outcome, Reader, Fails, ◌>>=◌, take_at, with_front}
use Rattle.grammar_theory.proofs.Sets.{Set}
use Rattle.grammar_theory.proofs.Listing.{Listed}
use Rattle.pat_text.specs.declared.parsed.ParsedColumn.{ParsedColumn}
use Rattle.pat_text.specs.declared.parsed.ParsedValue.{ParsedValue}
use Rattle.pat_text.specs.Reading.{value_at, values_at}

-- items were passed over, whichever they were
pub record Skipping {A : Type 0} (kinds : Set) (item : Reader A) (here : At) (total : Outcome (List A)) : Type 0 where
  pub done : List A
  pub listed : Listed kinds item done here total

-- the values so far, and those of the columns that are left
pub record Valued (columns : List ParsedColumn) (i : ℕ) (done : List ParsedValue) (here : At) (total : Outcome (List ParsedValue)) : Type 0 where
  pub so_far : with_front done (values_at (drop i columns) here) ≡ total

no_front : {A : Type 0} (read : Outcome (List A)) → with_front [] read ≡ read
no_front (Ok x) = refl
no_front (Err e) = refl

regroup : {A : Type 0} (front : List A) (v : A) (read : Outcome (List A)) → with_front front (read >>= λ x. Ok (v ∷ x.0, x.1)) ≡ with_front (front ++ v ∷ []) read
regroup {A} front v (Ok x) = ap (λ (vs : List A). Ok (vs, x.1)) (sym (append_assoc front (v ∷ []) x.0))
regroup front v (Err e) = refl

pub values_begin : (columns : List ParsedColumn) (here : At) → Valued columns 0 [] here (values_at columns here)
values_begin columns here = record { so_far = no_front (values_at columns here) }

-- what is read where a column is next
values_cons : (c : ParsedColumn) (cs : List ParsedColumn) (here : At) → values_at (c ∷ cs) here ≡ (value_at c.dir c.format here >>= λ v. values_at cs v.1 >>= λ vs. Ok (v.0 ∷ vs.0, vs.1))
unfolding values_at
values_cons c cs here = refl

values_next : (columns : List ParsedColumn) (i : ℕ) (c : ParsedColumn) (done : List ParsedValue) (here : At) (total : Outcome (List ParsedValue)) → i < length columns → c ≡ get_or columns i c → Valued columns i done here total
    → with_front done (value_at c.dir c.format here >>= λ v. values_at (drop (i + 1) columns) v.1 >>= λ vs. Ok (v.0 ∷ vs.0, vs.1)) ≡ total
values_next columns i c done here total within is kept =
    ap (with_front done) (sym (values_cons c (drop (i + 1) columns) here))
    ∙ ap (λ (x : ParsedColumn). with_front done (values_at (x ∷ drop (i + 1) columns) here)) is
    ∙ sym (at_drop_more (λ (cs : List ParsedColumn). with_front done (values_at cs here)) columns i c within) ∙ kept.so_far

pub values_go_on : (columns : List ParsedColumn) (i : ℕ) (c : ParsedColumn) (done : List ParsedValue) (here : At) (total : Outcome (List ParsedValue)) → i < length columns → c ≡ get_or columns i c → Valued columns i done here total
    → (v : ParsedValue) (there : At) → value_at c.dir c.format here ≡ Ok (v, there) → Valued columns (i + 1) (done ++ v ∷ []) there total
values_go_on columns i c done here total within is kept v there h =
    let more = values_at (drop (i + 1) columns) there in
    record {
      so_far =
          sym (regroup done v more)
          ∙ sym (ap (λ (o : Outcome ParsedValue). with_front done (o >>= λ v. values_at (drop (i + 1) columns) v.1 >>= λ vs. Ok (v.0 ∷ vs.0, vs.1))) h)
          ∙ values_next columns i c done here total within is kept;
    }

pub values_fail : (columns : List ParsedColumn) (i : ℕ) (c : ParsedColumn) (done : List ParsedValue) (here : At) (total : Outcome (List ParsedValue)) → i < length columns → c ≡ get_or columns i c → Valued columns i done here total
    → (e : Stop) → Fails e (value_at c.dir c.format here) → Fails e total
values_fail columns i c done here total within is kept stop.Memory h = tt
values_fail columns i c done here total within is kept (stop.Refused r) h =
    sym (values_next columns i c done here total within is kept)
    ∙ ap (λ (o : Outcome ParsedValue). with_front done (o >>= λ v. values_at (drop (i + 1) columns) v.1 >>= λ vs. Ok (v.0 ∷ vs.0, vs.1))) h

-- behind the last value
pub values_last : (columns : List ParsedColumn) (i : ℕ) (done : List ParsedValue) (here : At) (total : Outcome (List ParsedValue)) → length columns ≤ i → Valued columns i done here total → with_front done (values_at [] here) ≡ total
values_last columns i done here total past kept = ap (λ (cs : List ParsedColumn). with_front done (values_at cs here)) (sym (drop_all i columns past)) ∙ kept.so_far

pub end_fails : (done : List ParsedValue) (here : At) (total : Outcome (List ParsedValue)) → with_front done (values_at [] here) ≡ total → (e : Stop) → Fails e (take_at (form.Sign sign.Semicolon) here) → Fails e total
unfolding values_at
end_fails done here total is stop.Memory h = tt
end_fails done here total is (stop.Refused r) h =
    sym is ∙ ap (λ (o : Outcome PlacedToken). with_front done (o >>= λ t. Ok ([], t.1))) h

pub end_taken : (done : List ParsedValue) (here : At) (total : Outcome (List ParsedValue)) → with_front done (values_at [] here) ≡ total → (t : PlacedToken) (there : At) → take_at (form.Sign sign.Semicolon) here ≡ Ok (t, there) → total ≡ Ok (done, there)
unfolding values_at
end_taken done here total is t there h =
    let all : List ParsedValue → Outcome (List ParsedValue) = λ vs. Ok (vs, there) in
    sym is ∙ ap (λ (o : Outcome PlacedToken). with_front done (o >>= λ t. Ok ([], t.1))) h ∙ ap all (append-nil done)
