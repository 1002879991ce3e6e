use Rattle.std.proofs.Common.{◌≡◌, ℕ, List, [], ◌++◌, ap, ◌∙◌, append_assoc}
use Rattle.np_file.proofs.writing.dictionary_of.Goals as goal

chain : (a b c d e o0 o1 o2 o3 o4 o5 : List ℕ) → o0 ≡ [] → o1 ≡ o0 ++ a → o2 ≡ o1 ++ b → o3 ≡ o2 ++ c → o4 ≡ o3 ++ d →
    o5 ≡ o4 ++ e → o5 ≡ a ++ (b ++ (c ++ (d ++ e)))
chain a b c d e o0 o1 o2 o3 o4 o5 p0 p1 p2 p3 p4 p5 = rw (p5, p4, p3, p2, p1, p0) (simp append_assoc)

pub returns : goal.returns
returns c = chain _ _ _ _ _ _ _ _ _ _ _ c.new-out.ensures.items c.in_ok-extend_from_slice.ensures.items
    (c.in_ok-extend_from_slice-2.ensures.items ∙ ap (λ x. c.extend_from_slice.new.self.items ++ x) c.descr.ensures)
    c.in_ok-extend_from_slice-3.ensures.items c.in_ok-push_tuple.ensures c.in_ok-extend_from_slice-4.ensures.items
