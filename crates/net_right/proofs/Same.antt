-- To be the same by name is an equivalence.
use Rattle.std.proofs.Common.{◌↔◌}
use Rattle.net_right.specs.Same.{SameByNameIsEquivalence}

turn : {P Q : Type 0} → (P ↔ Q) → (Q ↔ P)
turn h = (h.1, h.0)

chain : {P Q R : Type 0} → (P ↔ Q) → (Q ↔ R) → (P ↔ R)
chain h g = (λ p. g.0 (h.0 p), λ r. h.1 (g.1 r))

pub same_by_name : SameByNameIsEquivalence
same_by_name = record {
  itself = λ n. record {
    ports = λ p. (λ h. h, λ h. h);
    instances = λ name model. (λ h. h, λ h. h);
    classes = λ a b. (λ h. h, λ h. h);
  };
  turned = λ n k h. record {
    ports = λ p. turn (h.ports p);
    instances = λ name model. turn (h.instances name model);
    classes = λ a b. turn (h.classes a b);
  };
  through = λ n k j h g. record {
    ports = λ p. chain (h.ports p) (g.ports p);
    instances = λ name model. chain (h.instances name model) (g.instances name model);
    classes = λ a b. chain (h.classes a b) (g.classes a b);
  };
}
