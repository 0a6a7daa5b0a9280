-- The sentences of all levels, as one grammar with its reader.
use Rattle.std.proofs.Common.{ℕ, ◌+◌, ◌<◌, ◌∷◌, ◌++◌, arith}
use Rattle.grammar_theory.specs.Grammar.{Grammar, at_some}
use Rattle.grammar_theory.specs.Outcome.{Reader}
use Rattle.grammar_theory.proofs.Exact.{Shape, Reads}
use Rattle.grammar_theory.proofs.Bundle.{Starts, Exact}
use Rattle.grammar_theory.proofs.Levels.{Rising, all_answers}

pub all_shape : {A : Type 0} (G : ℕ → Grammar A) (floor : ℕ) → (ri : Rising G floor) → Shape (at_some G) ri.null ri.firsts ri.lasts
all_shape {A} G floor ri = record {
  same = λ p v w h g.
      let e = h.level + g.level + floor + 1 in
      (ri.shape e).same p v w (ri.rises h.level e (omega arith) (omega arith) p v h.sentence) (ri.rises g.level e (omega arith) (omega arith) p w g.sentence);
  empty = λ v h. (ri.shape h.level).empty v h.sentence;
  begins = λ t q v h. (ri.shape h.level).begins t q v h.sentence;
  goes_on = λ p t q v w h g.
      let e = h.level + g.level + floor + 1 in
      (ri.shape e).goes_on p t q v w (ri.rises h.level e (omega arith) (omega arith) p v h.sentence) (ri.rises g.level e (omega arith) (omega arith) (p ++ t ∷ q) w g.sentence);
  marks = λ p i j w z v u h g s.
      let e = h.level + g.level + floor + 1 in
      (ri.shape e).marks p i j w z v u (ri.rises h.level e (omega arith) (omega arith) (p ++ i ∷ w) v h.sentence) (ri.rises g.level e (omega arith) (omega arith) (p ++ j ∷ z) u g.sentence) s;
}

all_starts : {A : Type 0} (G : ℕ → Grammar A) (floor : ℕ) → (ri : Rising G floor) → (level : ℕ) → Starts (G level) ri.null ri.firsts → Starts (at_some G) ri.null ri.firsts
all_starts G floor ri level st = record {
  nullable = λ e. let x = st.nullable e in (x.0, record { level = level; sentence = x.1 });
  starts = λ t h.
      let o = st.starts t h in
      let b = o.begins in
      record { mark = o.mark; is = o.is; begins = (b.0, b.1, record { level = level; sentence = b.2 }) };
}

-- a reader that reads each level above the floor reads them all
pub exact_all : {P A : Type 0} (G : ℕ → Grammar A) (floor : ℕ) (r : Reader A) → (ri : Rising G floor) → ((e : ℕ) → floor < e → Reads (G e) r) → Starts (G (floor + 1)) ri.null ri.firsts
    → Exact P (at_some G) (at_some G) ri.null ri.firsts ri.lasts r
exact_all G floor r ri reads st = record {
  shape = all_shape G floor ri;
  inside = λ p q v h. h;
  reads = λ p.
      let rl = reads (floor + 1) (omega arith) in
      record {
        some_items = rl.some_items;
        some_value = rl.some_value;
        some = record { level = floor + 1; sentence = rl.some };
        answers = λ here. all_answers G floor ri here (r here) (λ e above. (reads e above).answers here);
      };
  starts = λ p. all_starts G floor ri (floor + 1) st;
}
