-- Cases of a reference implementation of a rewrite, over random trees. Written by bench/rewrites_from_cases.py.
use Rattle.std.specs.Prelude.{ℕ, List, [], ◌∷◌, Some, None, true, false}
use Rattle.rowan_green.specs.Forest.{Forest, empty, node, leaf, Tree}
use Rattle.syntax_suite.specs.Case.{Case, into, over, over_root, intersecting, missing, accepted}

abbrev n : ℕ → Forest → Forest → Forest
n k f r = node k f r

abbrev t : ℕ → List ℕ → Forest → Forest
t k s r = leaf (record { kind = k; text = s }) r

abbrev o : Forest
o = empty

abbrev r : ℕ → Forest → Tree
r k f = record { kind = k; forest = f }

abbrev case_0 : Case
case_0 = record { trees = ((r 2 (n 1 o o)) ∷ (r 3 (t 5 (195 ∷ 169 ∷ []) (n 1 o o))) ∷ (r 1 o) ∷ (r 1 (n 1 o (n 1 o o))) ∷ (r 3 o) ∷ []); mapping = (((1, []), (2, (1 ∷ []))) ∷ ((2, (1 ∷ [])), (4, (0 ∷ []))) ∷ ((3, []), (4, (1 ∷ []))) ∷ []); changes = (over [] 0 0 ((4, (1 ∷ [])) ∷ (1, []) ∷ []) false ∷ over [] 0 0 [] true ∷ []); outcome = intersecting }

abbrev case_1 : Case
case_1 = record { trees = ((r 3 o) ∷ (r 3 o) ∷ (r 3 (t 4 (195 ∷ 169 ∷ []) (t 5 (195 ∷ 169 ∷ []) (n 3 o o)))) ∷ (r 1 o) ∷ (r 3 (t 5 (195 ∷ 169 ∷ []) (n 3 (t 4 (195 ∷ 169 ∷ []) (t 5 (195 ∷ 169 ∷ []) (n 3 o o))) o))) ∷ []); mapping = (((2, []), (3, (2 ∷ []))) ∷ ((3, []), (5, (1 ∷ []))) ∷ []); changes = (into [] 0 ((3, (2 ∷ [])) ∷ []) ∷ []); outcome = accepted (n 3 (n 3 o o) o) ((0 ∷ []) ∷ []) ((1, []) ∷ (3, (2 ∷ [])) ∷ []) 1 (Some ((0 ∷ []) ∷ [])) }

abbrev case_2 : Case
case_2 = record { trees = ((r 1 (t 5 (98 ∷ []) o)) ∷ (r 2 (n 1 (t 5 (98 ∷ []) o) (n 1 (t 5 (98 ∷ []) o) o))) ∷ []); mapping = (((1, []), (2, (1 ∷ []))) ∷ []); changes = (over_root ((1, []) ∷ []) true ∷ over [] 0 0 ((2, []) ∷ []) true ∷ []); outcome = accepted (n 1 (n 2 (n 1 (t 5 (98 ∷ []) o) (n 1 (t 5 (98 ∷ []) o) o)) o) o) ([] ∷ []) ((1, []) ∷ (2, []) ∷ (2, (0 ∷ [])) ∷ (2, (0 ∷ 0 ∷ [])) ∷ (2, (1 ∷ [])) ∷ (2, (1 ∷ 0 ∷ [])) ∷ []) 2 (Some ((1 ∷ 0 ∷ []) ∷ [])) }

abbrev case_3 : Case
case_3 = record { trees = ((r 2 (n 3 o o)) ∷ (r 3 (t 4 (195 ∷ 169 ∷ []) o)) ∷ (r 3 (n 3 o (n 2 (n 3 o o) (t 4 (99 ∷ []) o)))) ∷ []); mapping = (((1, (0 ∷ [])), (3, (0 ∷ []))) ∷ ((1, []), (3, (1 ∷ []))) ∷ []); changes = (over [] 0 0 ((2, []) ∷ []) true ∷ over [] 0 0 ((3, []) ∷ (1, (0 ∷ [])) ∷ []) false ∷ over_root ((3, []) ∷ []) true ∷ []); outcome = intersecting }

abbrev case_4 : Case
case_4 = record { trees = ((r 3 (t 4 (98 ∷ []) o)) ∷ []); mapping = []; changes = (over_root ((1, []) ∷ []) true ∷ []); outcome = accepted (n 3 (t 4 (98 ∷ []) o) o) ([] ∷ []) ((1, []) ∷ (1, (0 ∷ [])) ∷ []) 1 (Some ((0 ∷ []) ∷ [])) }

abbrev case_5 : Case
case_5 = record { trees = ((r 1 (t 4 (98 ∷ []) o)) ∷ (r 2 o) ∷ (r 1 (t 4 (99 ∷ []) (n 2 o o))) ∷ []); mapping = []; changes = (over_root ((3, []) ∷ []) true ∷ into [] 0 ((1, (0 ∷ [])) ∷ (2, []) ∷ []) ∷ []); outcome = missing }

abbrev case_6 : Case
case_6 = record { trees = ((r 2 o) ∷ (r 2 (n 2 o (n 2 o o))) ∷ (r 2 (n 2 o o)) ∷ (r 1 o) ∷ []); mapping = (((1, []), (3, (0 ∷ []))) ∷ []); changes = (over_root ((4, []) ∷ []) true ∷ []); outcome = accepted (n 1 o o) ([] ∷ []) ((4, []) ∷ []) 1 (Some ((0 ∷ []) ∷ [])) }

abbrev case_7 : Case
case_7 = record { trees = ((r 3 o) ∷ (r 3 (t 4 (100 ∷ []) (n 1 (n 3 (n 1 (t 4 (98 ∷ []) o) (t 4 (99 ∷ []) o)) o) o))) ∷ (r 3 (t 5 (104 ∷ []) (n 3 (n 3 (n 1 o (n 1 (t 4 (101 ∷ []) (t 5 (102 ∷ []) o)) (t 5 (103 ∷ []) o))) o) o))) ∷ []); mapping = (((1, []), (2, (1 ∷ []))) ∷ ((2, (1 ∷ 0 ∷ [])), (3, (1 ∷ []))) ∷ []); changes = []; outcome = accepted (n 3 o o) [] ((1, []) ∷ []) 0 (Some ([] ∷ [])) }

abbrev case_8 : Case
case_8 = record { trees = ((r 3 (n 2 (t 4 (98 ∷ []) (t 4 (195 ∷ 169 ∷ []) (t 4 (100 ∷ []) o))) o)) ∷ []); mapping = []; changes = (over (0 ∷ []) 1 1 ((1, []) ∷ []) true ∷ into [] 1 [] ∷ over (0 ∷ []) 1 1 ((1, []) ∷ []) false ∷ over (0 ∷ []) 0 0 ((1, (0 ∷ 0 ∷ [])) ∷ []) false ∷ over [] 0 0 [] true ∷ []); outcome = intersecting }

abbrev case_9 : Case
case_9 = record { trees = ((r 2 (t 5 (98 ∷ []) o)) ∷ []); mapping = []; changes = (over [] 0 0 ((1, []) ∷ []) true ∷ into [] 1 [] ∷ []); outcome = accepted (n 2 (n 2 (t 5 (98 ∷ []) o) o) o) ((0 ∷ []) ∷ []) ((1, []) ∷ (1, []) ∷ (1, (0 ∷ [])) ∷ []) 2 (Some ((0 ∷ 1 ∷ []) ∷ (1 ∷ 0 ∷ []) ∷ [])) }

abbrev case_10 : Case
case_10 = record { trees = ((r 2 (t 5 (98 ∷ []) (n 1 (t 5 (99 ∷ []) (t 4 [] (n 1 (t 5 (101 ∷ []) o) o))) o))) ∷ (r 2 o) ∷ (r 3 o) ∷ []); mapping = []; changes = (over (1 ∷ []) 2 2 ((1, (1 ∷ 2 ∷ [])) ∷ []) true ∷ []); outcome = accepted (n 2 (t 5 (98 ∷ []) (n 1 (t 5 (99 ∷ []) (t 4 [] (n 1 (t 5 (101 ∷ []) o) o))) o)) o) ((1 ∷ 2 ∷ []) ∷ []) ((1, []) ∷ (1, (0 ∷ [])) ∷ (1, (1 ∷ [])) ∷ (1, (1 ∷ 0 ∷ [])) ∷ (1, (1 ∷ 1 ∷ [])) ∷ (1, (1 ∷ 2 ∷ [])) ∷ (1, (1 ∷ 2 ∷ 0 ∷ [])) ∷ []) 1 (Some ((0 ∷ []) ∷ [])) }

abbrev case_11 : Case
case_11 = record { trees = ((r 1 (t 5 (98 ∷ []) (n 2 (t 4 (195 ∷ 169 ∷ []) o) o))) ∷ (r 2 (n 2 (n 3 (t 5 (100 ∷ []) (t 4 (101 ∷ []) o)) (t 4 (102 ∷ []) o)) o)) ∷ (r 3 (n 1 o o)) ∷ (r 2 (n 1 (n 3 o o) o)) ∷ (r 2 (n 1 (n 2 (t 4 [] o) (t 5 (104 ∷ []) o)) (n 2 o o))) ∷ []); mapping = (((1, (1 ∷ [])), (4, (0 ∷ []))) ∷ ((4, (0 ∷ 0 ∷ [])), (5, (0 ∷ []))) ∷ []); changes = (over [] 1 1 ((4, []) ∷ (5, []) ∷ []) false ∷ over_root ((5, []) ∷ []) true ∷ over [] 0 1 [] false ∷ into [] 0 ((5, (1 ∷ [])) ∷ []) ∷ into [] 1 ((4, (0 ∷ [])) ∷ []) ∷ []); outcome = intersecting }

abbrev case_12 : Case
case_12 = record { trees = ((r 2 (n 1 (n 1 o (t 5 (98 ∷ []) o)) (t 4 (99 ∷ []) o))) ∷ []); mapping = []; changes = (over (0 ∷ []) 0 0 ((1, (0 ∷ 0 ∷ [])) ∷ []) true ∷ into (0 ∷ 0 ∷ []) 0 ((1, (0 ∷ [])) ∷ []) ∷ over (0 ∷ []) 1 1 ((1, (1 ∷ [])) ∷ (1, (0 ∷ [])) ∷ []) false ∷ []); outcome = accepted (n 2 (n 1 (n 1 (n 1 (n 1 o (t 5 (98 ∷ []) o)) o) (t 4 (99 ∷ []) (n 1 (n 1 o (t 5 (98 ∷ []) o)) o))) (t 4 (99 ∷ []) o)) o) ((0 ∷ 0 ∷ []) ∷ (0 ∷ 1 ∷ []) ∷ (0 ∷ 2 ∷ []) ∷ []) ((1, []) ∷ (1, (0 ∷ [])) ∷ (1, (0 ∷ 0 ∷ [])) ∷ (1, (0 ∷ [])) ∷ (1, (0 ∷ 0 ∷ [])) ∷ (1, (0 ∷ 1 ∷ [])) ∷ (1, (1 ∷ [])) ∷ (1, (0 ∷ [])) ∷ (1, (0 ∷ 0 ∷ [])) ∷ (1, (0 ∷ 1 ∷ [])) ∷ (1, (1 ∷ [])) ∷ []) 3 (Some ((1 ∷ 0 ∷ 2 ∷ []) ∷ (1 ∷ 2 ∷ 0 ∷ []) ∷ (2 ∷ 1 ∷ 0 ∷ []) ∷ [])) }

abbrev case_13 : Case
case_13 = record { trees = ((r 2 (t 4 (98 ∷ []) (n 1 (t 4 (99 ∷ []) (t 5 (100 ∷ []) o)) o))) ∷ (r 3 (t 5 (101 ∷ []) (n 2 o o))) ∷ (r 1 (t 4 (102 ∷ []) (n 1 (n 1 (t 4 (99 ∷ []) (t 5 (100 ∷ []) o)) o) o))) ∷ (r 3 (t 5 (103 ∷ []) (n 3 o o))) ∷ []); mapping = (((1, []), (3, (1 ∷ []))) ∷ ((1, (1 ∷ [])), (3, (1 ∷ 0 ∷ []))) ∷ ((3, (1 ∷ [])), (4, (1 ∷ []))) ∷ []); changes = (over (1 ∷ []) 1 1 [] true ∷ over [] 1 1 ((2, (0 ∷ [])) ∷ (4, (0 ∷ [])) ∷ []) false ∷ over [] 0 0 ((2, []) ∷ (3, []) ∷ []) false ∷ over (1 ∷ []) 1 1 ((3, (0 ∷ [])) ∷ (3, (1 ∷ 0 ∷ [])) ∷ []) false ∷ []); outcome = intersecting }

abbrev case_14 : Case
case_14 = record { trees = ((r 2 (n 2 (t 4 (98 ∷ []) (t 4 (99 ∷ []) (n 3 (t 4 (100 ∷ []) o) o))) (t 4 (101 ∷ []) (t 4 (102 ∷ []) o)))) ∷ []); mapping = []; changes = (over [] 1 1 [] true ∷ into [] 1 [] ∷ over (0 ∷ []) 0 2 [] false ∷ over [] 2 2 ((1, (0 ∷ 0 ∷ [])) ∷ []) true ∷ into (0 ∷ []) 0 ((1, (0 ∷ 2 ∷ 0 ∷ [])) ∷ []) ∷ []); outcome = accepted (n 2 (n 2 (t 4 (100 ∷ []) o) (t 4 (98 ∷ []) o)) o) ((0 ∷ 0 ∷ []) ∷ (1 ∷ []) ∷ []) ((1, []) ∷ (1, (0 ∷ [])) ∷ (1, (0 ∷ 2 ∷ 0 ∷ [])) ∷ (1, (0 ∷ 0 ∷ [])) ∷ []) 5 None }

abbrev case_15 : Case
case_15 = record { trees = ((r 1 (n 3 o (t 5 (98 ∷ []) o))) ∷ []); mapping = []; changes = (over [] 1 1 [] true ∷ over [] 0 0 [] false ∷ into (0 ∷ []) 0 [] ∷ into [] 1 ((1, (0 ∷ [])) ∷ (1, (0 ∷ [])) ∷ []) ∷ []); outcome = accepted (n 1 (n 3 o (n 3 o o)) o) ((0 ∷ []) ∷ (1 ∷ []) ∷ []) ((1, []) ∷ (1, (0 ∷ [])) ∷ (1, (0 ∷ [])) ∷ []) 3 (Some ((0 ∷ 1 ∷ 2 ∷ []) ∷ (0 ∷ 2 ∷ 1 ∷ []) ∷ (1 ∷ 0 ∷ 2 ∷ []) ∷ (1 ∷ 2 ∷ 0 ∷ []) ∷ (2 ∷ 0 ∷ 1 ∷ []) ∷ (2 ∷ 1 ∷ 0 ∷ []) ∷ [])) }

abbrev case_16 : Case
case_16 = record { trees = ((r 3 (t 4 (195 ∷ 169 ∷ []) (n 3 (n 2 (n 3 (t 5 (99 ∷ []) (t 5 [] o)) o) o) o))) ∷ []); mapping = []; changes = (into (1 ∷ 0 ∷ []) 0 ((1, []) ∷ []) ∷ over [] 1 1 ((1, (1 ∷ [])) ∷ []) true ∷ []); outcome = accepted (n 3 (t 4 (195 ∷ 169 ∷ []) (n 3 (n 2 (n 3 (t 4 (195 ∷ 169 ∷ []) (n 3 (n 2 (n 3 (t 5 (99 ∷ []) (t 5 [] o)) o) o) o)) (n 3 (t 5 (99 ∷ []) (t 5 [] o)) o)) o) o)) o) ((1 ∷ []) ∷ []) ((1, []) ∷ (1, (0 ∷ [])) ∷ (1, (1 ∷ [])) ∷ (1, (1 ∷ 0 ∷ [])) ∷ (1, []) ∷ (1, (0 ∷ [])) ∷ (1, (1 ∷ [])) ∷ (1, (1 ∷ 0 ∷ [])) ∷ (1, (1 ∷ 0 ∷ 0 ∷ [])) ∷ (1, (1 ∷ 0 ∷ 0 ∷ 0 ∷ [])) ∷ (1, (1 ∷ 0 ∷ 0 ∷ 1 ∷ [])) ∷ (1, (1 ∷ 0 ∷ 0 ∷ [])) ∷ (1, (1 ∷ 0 ∷ 0 ∷ 0 ∷ [])) ∷ (1, (1 ∷ 0 ∷ 0 ∷ 1 ∷ [])) ∷ []) 2 (Some ((0 ∷ 1 ∷ []) ∷ [])) }

abbrev case_17 : Case
case_17 = record { trees = ((r 2 (t 5 (98 ∷ []) o)) ∷ (r 2 (t 5 (195 ∷ 169 ∷ []) (n 3 (n 1 (n 2 o o) o) o))) ∷ []); mapping = (((1, []), (2, (1 ∷ []))) ∷ []); changes = (over [] 0 0 [] true ∷ into [] 0 ((2, []) ∷ []) ∷ into [] 1 ((2, (1 ∷ 0 ∷ [])) ∷ []) ∷ []); outcome = accepted (n 2 (n 2 (t 5 (195 ∷ 169 ∷ []) (n 3 (n 1 (n 2 o o) o) o)) (n 1 (n 2 o o) o)) o) ((0 ∷ []) ∷ (1 ∷ []) ∷ []) ((1, []) ∷ (2, []) ∷ (2, (0 ∷ [])) ∷ (2, (1 ∷ [])) ∷ (2, (1 ∷ 0 ∷ [])) ∷ (2, (1 ∷ 0 ∷ 0 ∷ [])) ∷ (2, (1 ∷ 0 ∷ [])) ∷ (2, (1 ∷ 0 ∷ 0 ∷ [])) ∷ []) 3 (Some ((0 ∷ 1 ∷ 2 ∷ []) ∷ (0 ∷ 2 ∷ 1 ∷ []) ∷ (1 ∷ 0 ∷ 2 ∷ []) ∷ (1 ∷ 2 ∷ 0 ∷ []) ∷ (2 ∷ 0 ∷ 1 ∷ []) ∷ (2 ∷ 1 ∷ 0 ∷ []) ∷ [])) }

abbrev case_18 : Case
case_18 = record { trees = ((r 1 o) ∷ (r 2 (n 1 o (t 5 (98 ∷ []) o))) ∷ []); mapping = []; changes = (into [] 0 ((2, (0 ∷ [])) ∷ (2, []) ∷ []) ∷ into [] 0 ((2, (1 ∷ [])) ∷ []) ∷ over_root ((1, []) ∷ []) true ∷ []); outcome = accepted (n 1 (t 5 (98 ∷ []) (n 1 o (n 2 (n 1 o (t 5 (98 ∷ []) o)) o))) o) ([] ∷ []) ((1, []) ∷ (2, (1 ∷ [])) ∷ (2, (0 ∷ [])) ∷ (2, []) ∷ (2, (0 ∷ [])) ∷ (2, (1 ∷ [])) ∷ []) 3 (Some ((0 ∷ 1 ∷ 2 ∷ []) ∷ [])) }

abbrev case_19 : Case
case_19 = record { trees = ((r 2 (n 1 (n 3 (n 1 (t 4 (98 ∷ []) (t 4 (99 ∷ []) (t 5 (100 ∷ []) o))) (n 2 (t 5 (101 ∷ []) o) o)) (t 4 (102 ∷ []) (t 4 (103 ∷ []) o))) (n 1 o o))) ∷ []); mapping = []; changes = (over (0 ∷ 0 ∷ 0 ∷ []) 2 2 [] false ∷ over (0 ∷ 0 ∷ []) 0 0 ((1, (0 ∷ 0 ∷ 0 ∷ 0 ∷ [])) ∷ []) true ∷ []); outcome = accepted (n 2 (n 1 (n 3 (t 4 (98 ∷ []) (n 2 (t 5 (101 ∷ []) o) o)) (t 4 (102 ∷ []) (t 4 (103 ∷ []) o))) (n 1 o o)) o) ((0 ∷ 0 ∷ 0 ∷ []) ∷ []) ((1, []) ∷ (1, (0 ∷ [])) ∷ (1, (0 ∷ 0 ∷ [])) ∷ (1, (0 ∷ 0 ∷ 0 ∷ 0 ∷ [])) ∷ (1, (0 ∷ 0 ∷ 1 ∷ [])) ∷ (1, (0 ∷ 0 ∷ 1 ∷ 0 ∷ [])) ∷ (1, (0 ∷ 1 ∷ [])) ∷ (1, (0 ∷ 2 ∷ [])) ∷ (1, (1 ∷ [])) ∷ []) 1 (Some ((0 ∷ []) ∷ [])) }

abbrev case_20 : Case
case_20 = record { trees = ((r 3 (t 5 (98 ∷ []) (t 5 (99 ∷ []) o))) ∷ (r 1 (n 1 (t 5 (100 ∷ []) (n 1 (t 5 (101 ∷ []) (t 5 (102 ∷ []) o)) (t 5 (103 ∷ []) o))) (n 3 (t 5 (98 ∷ []) (t 5 (99 ∷ []) o)) (n 3 (t 5 (98 ∷ []) (t 5 (99 ∷ []) o)) o)))) ∷ []); mapping = (((1, []), (2, (2 ∷ []))) ∷ []); changes = (over [] 1 1 ((2, (0 ∷ 1 ∷ 0 ∷ [])) ∷ []) true ∷ []); outcome = accepted (n 3 (t 5 (98 ∷ []) (t 5 (101 ∷ []) o)) o) ((1 ∷ []) ∷ []) ((1, []) ∷ (1, (0 ∷ [])) ∷ (2, (0 ∷ 1 ∷ 0 ∷ [])) ∷ []) 1 (Some ((0 ∷ []) ∷ [])) }

abbrev case_21 : Case
case_21 = record { trees = ((r 2 (n 1 (t 5 (98 ∷ []) o) o)) ∷ []); mapping = []; changes = (over (0 ∷ []) 0 0 ((1, (0 ∷ 0 ∷ [])) ∷ []) true ∷ over [] 0 0 [] true ∷ over (0 ∷ []) 0 0 [] false ∷ over_root ((1, []) ∷ []) true ∷ []); outcome = intersecting }

abbrev case_22 : Case
case_22 = record { trees = ((r 3 (n 3 (t 5 (98 ∷ []) (t 4 (99 ∷ []) (t 4 (100 ∷ []) o))) o)) ∷ []); mapping = []; changes = (over [] 0 0 [] false ∷ into [] 0 ((1, (0 ∷ 2 ∷ [])) ∷ []) ∷ over (0 ∷ []) 2 2 ((1, (0 ∷ 2 ∷ [])) ∷ []) true ∷ into [] 0 ((1, (0 ∷ 2 ∷ [])) ∷ (1, (0 ∷ 2 ∷ [])) ∷ []) ∷ []); outcome = accepted (n 3 (t 4 (100 ∷ []) (t 4 (100 ∷ []) (t 4 (100 ∷ []) o))) o) ((0 ∷ []) ∷ (1 ∷ []) ∷ (2 ∷ []) ∷ []) ((1, []) ∷ (1, (0 ∷ 2 ∷ [])) ∷ (1, (0 ∷ 2 ∷ [])) ∷ (1, (0 ∷ 2 ∷ [])) ∷ []) 3 (Some ((0 ∷ 1 ∷ 2 ∷ []) ∷ (1 ∷ 0 ∷ 2 ∷ []) ∷ (1 ∷ 2 ∷ 0 ∷ []) ∷ [])) }

abbrev case_23 : Case
case_23 = record { trees = ((r 2 o) ∷ []); mapping = []; changes = (over_root ((1, []) ∷ []) true ∷ []); outcome = accepted (n 2 o o) ([] ∷ []) ((1, []) ∷ []) 1 (Some ((0 ∷ []) ∷ [])) }

abbrev case_24 : Case
case_24 = record { trees = ((r 3 (n 1 (t 5 (98 ∷ []) o) (n 3 (n 2 (t 4 (99 ∷ []) o) (t 5 (100 ∷ []) (n 2 o o))) o))) ∷ (r 1 o) ∷ (r 3 o) ∷ []); mapping = []; changes = (over [] 0 0 ((2, []) ∷ []) false ∷ []); outcome = accepted (n 3 (n 1 o (n 3 (n 2 (t 4 (99 ∷ []) o) (t 5 (100 ∷ []) (n 2 o o))) o)) o) ((0 ∷ []) ∷ []) ((1, []) ∷ (2, []) ∷ (1, (1 ∷ [])) ∷ (1, (1 ∷ 0 ∷ [])) ∷ (1, (1 ∷ 0 ∷ 0 ∷ [])) ∷ (1, (1 ∷ 1 ∷ [])) ∷ (1, (1 ∷ 2 ∷ [])) ∷ []) 1 (Some ((0 ∷ []) ∷ [])) }

abbrev case_25 : Case
case_25 = record { trees = ((r 2 (t 5 (98 ∷ []) (t 5 (99 ∷ []) (t 4 (100 ∷ []) o)))) ∷ (r 3 o) ∷ (r 1 (t 4 (195 ∷ 169 ∷ []) (n 1 (t 4 (101 ∷ []) (n 3 o o)) o))) ∷ (r 3 (n 1 (t 4 (103 ∷ []) (t 4 [] o)) (n 3 o (n 3 o o)))) ∷ (r 2 (t 5 [] (n 2 (t 5 (105 ∷ []) (n 3 o (t 4 (106 ∷ []) o))) o))) ∷ []); mapping = (((1, []), (3, (1 ∷ []))) ∷ ((2, []), (4, (2 ∷ []))) ∷ ((3, (1 ∷ [])), (4, (0 ∷ []))) ∷ []); changes = (into [] 2 [] ∷ over [] 2 2 [] true ∷ over [] 0 0 ((2, []) ∷ []) true ∷ []); outcome = accepted (n 2 (n 3 o (t 5 (99 ∷ []) o)) o) ((0 ∷ []) ∷ []) ((1, []) ∷ (2, []) ∷ (1, (1 ∷ [])) ∷ []) 3 (Some ((0 ∷ 1 ∷ 2 ∷ []) ∷ (0 ∷ 2 ∷ 1 ∷ []) ∷ (1 ∷ 0 ∷ 2 ∷ []) ∷ (1 ∷ 2 ∷ 0 ∷ []) ∷ (2 ∷ 0 ∷ 1 ∷ []) ∷ (2 ∷ 1 ∷ 0 ∷ []) ∷ [])) }

abbrev case_26 : Case
case_26 = record { trees = ((r 1 (n 1 (n 2 (n 3 (t 5 (98 ∷ []) (t 5 (99 ∷ []) o)) o) (n 3 (t 5 (100 ∷ []) (t 4 (101 ∷ []) o)) o)) (n 3 o o))) ∷ []); mapping = []; changes = []; outcome = accepted (n 1 (n 1 (n 2 (n 3 (t 5 (98 ∷ []) (t 5 (99 ∷ []) o)) o) (n 3 (t 5 (100 ∷ []) (t 4 (101 ∷ []) o)) o)) (n 3 o o)) o) [] ((1, []) ∷ (1, (0 ∷ [])) ∷ (1, (0 ∷ 0 ∷ [])) ∷ (1, (0 ∷ 0 ∷ 0 ∷ [])) ∷ (1, (0 ∷ 0 ∷ 0 ∷ 0 ∷ [])) ∷ (1, (0 ∷ 0 ∷ 0 ∷ 1 ∷ [])) ∷ (1, (0 ∷ 1 ∷ [])) ∷ (1, (0 ∷ 1 ∷ 0 ∷ [])) ∷ (1, (0 ∷ 1 ∷ 1 ∷ [])) ∷ (1, (1 ∷ [])) ∷ []) 0 (Some ([] ∷ [])) }

abbrev case_27 : Case
case_27 = record { trees = ((r 3 (t 4 (98 ∷ []) (t 5 (99 ∷ []) o))) ∷ []); mapping = []; changes = (over [] 1 1 ((1, (0 ∷ [])) ∷ []) true ∷ into [] 0 ((1, (0 ∷ [])) ∷ []) ∷ over [] 0 0 [] false ∷ into [] 0 ((1, (1 ∷ [])) ∷ (1, (1 ∷ [])) ∷ []) ∷ []); outcome = accepted (n 3 (t 5 (99 ∷ []) (t 5 (99 ∷ []) (t 4 (98 ∷ []) (t 4 (98 ∷ []) o)))) o) ((0 ∷ []) ∷ (1 ∷ []) ∷ (2 ∷ []) ∷ (3 ∷ []) ∷ []) ((1, []) ∷ (1, (1 ∷ [])) ∷ (1, (1 ∷ [])) ∷ (1, (0 ∷ [])) ∷ (1, (0 ∷ [])) ∷ []) 4 (Some ((0 ∷ 1 ∷ 2 ∷ 3 ∷ []) ∷ (0 ∷ 1 ∷ 3 ∷ 2 ∷ []) ∷ (0 ∷ 2 ∷ 1 ∷ 3 ∷ []) ∷ (1 ∷ 0 ∷ 2 ∷ 3 ∷ []) ∷ (1 ∷ 0 ∷ 3 ∷ 2 ∷ []) ∷ (1 ∷ 2 ∷ 0 ∷ 3 ∷ []) ∷ (1 ∷ 2 ∷ 3 ∷ 0 ∷ []) ∷ (1 ∷ 3 ∷ 0 ∷ 2 ∷ []) ∷ (1 ∷ 3 ∷ 2 ∷ 0 ∷ []) ∷ (2 ∷ 0 ∷ 1 ∷ 3 ∷ []) ∷ (2 ∷ 1 ∷ 0 ∷ 3 ∷ []) ∷ (2 ∷ 1 ∷ 3 ∷ 0 ∷ []) ∷ [])) }

abbrev case_28 : Case
case_28 = record { trees = ((r 2 (n 3 (t 4 (98 ∷ []) (t 4 (99 ∷ []) o)) o)) ∷ (r 1 (t 4 (100 ∷ []) (n 3 o o))) ∷ (r 1 o) ∷ (r 1 (t 4 (101 ∷ []) (n 2 o o))) ∷ (r 3 (n 1 (t 4 (100 ∷ []) (n 3 o o)) (n 1 (t 4 (100 ∷ []) (n 3 o o)) o))) ∷ []); mapping = (((1, (0 ∷ [])), (2, (1 ∷ []))) ∷ ((3, []), (4, (1 ∷ []))) ∷ ((2, []), (5, (1 ∷ []))) ∷ []); changes = (over_root ((2, []) ∷ []) true ∷ []); outcome = accepted (n 1 (t 4 (100 ∷ []) (n 3 o o)) o) ([] ∷ []) ((2, []) ∷ (2, (0 ∷ [])) ∷ (2, (1 ∷ [])) ∷ []) 1 (Some ((0 ∷ []) ∷ [])) }

abbrev case_29 : Case
case_29 = record { trees = ((r 1 o) ∷ (r 3 (t 4 (195 ∷ 169 ∷ []) (n 3 (n 1 o (n 1 o (n 1 o o))) o))) ∷ (r 1 (t 4 [] o)) ∷ []); mapping = (((1, []), (2, (1 ∷ 2 ∷ []))) ∷ []); changes = (over_root ((2, []) ∷ []) true ∷ into [] 0 ((3, []) ∷ (3, (0 ∷ [])) ∷ []) ∷ []); outcome = accepted (n 3 (t 4 (195 ∷ 169 ∷ []) (n 3 (n 1 o (n 1 o (n 1 (n 1 (t 4 [] o) (t 4 [] o)) o))) o)) o) ([] ∷ []) ((2, []) ∷ (2, (0 ∷ [])) ∷ (2, (1 ∷ [])) ∷ (2, (1 ∷ 0 ∷ [])) ∷ (2, (1 ∷ 1 ∷ [])) ∷ (2, (1 ∷ 2 ∷ [])) ∷ (3, []) ∷ (3, (0 ∷ [])) ∷ (3, (0 ∷ [])) ∷ []) 2 (Some ((1 ∷ 0 ∷ []) ∷ [])) }

abbrev case_30 : Case
case_30 = record { trees = ((r 2 (n 3 o (t 5 (98 ∷ []) o))) ∷ (r 3 (t 4 (99 ∷ []) (n 1 o o))) ∷ []); mapping = []; changes = (into [] 2 [] ∷ []); outcome = accepted (n 2 (n 3 o (t 5 (98 ∷ []) o)) o) [] ((1, []) ∷ (1, (0 ∷ [])) ∷ (1, (1 ∷ [])) ∷ []) 1 (Some ((0 ∷ []) ∷ [])) }

abbrev case_31 : Case
case_31 = record { trees = ((r 3 o) ∷ []); mapping = []; changes = (over_root ((1, []) ∷ []) true ∷ []); outcome = accepted (n 3 o o) ([] ∷ []) ((1, []) ∷ []) 1 (Some ((0 ∷ []) ∷ [])) }

abbrev case_32 : Case
case_32 = record { trees = ((r 1 (t 4 (98 ∷ []) o)) ∷ (r 1 (n 1 (t 4 (98 ∷ []) o) o)) ∷ []); mapping = (((1, []), (2, (0 ∷ []))) ∷ []); changes = (over_root ((2, []) ∷ []) true ∷ into [] 1 [] ∷ over [] 0 0 [] false ∷ into [] 1 [] ∷ []); outcome = accepted (n 1 (n 1 o o) o) ([] ∷ []) ((2, []) ∷ (2, (0 ∷ [])) ∷ []) 4 (Some ((1 ∷ 2 ∷ 3 ∷ 0 ∷ []) ∷ (1 ∷ 3 ∷ 2 ∷ 0 ∷ []) ∷ (2 ∷ 1 ∷ 3 ∷ 0 ∷ []) ∷ [])) }

abbrev case_33 : Case
case_33 = record { trees = ((r 3 (t 5 (98 ∷ []) (t 5 (99 ∷ []) o))) ∷ (r 1 (t 4 (100 ∷ []) (n 2 (n 3 (t 5 (98 ∷ []) (t 5 (99 ∷ []) o)) o) o))) ∷ []); mapping = []; changes = (over [] 0 0 ((2, []) ∷ (2, []) ∷ []) false ∷ over [] 0 0 ((2, []) ∷ []) true ∷ []); outcome = intersecting }

abbrev case_34 : Case
case_34 = record { trees = ((r 3 (n 3 o o)) ∷ (r 1 (n 3 o o)) ∷ []); mapping = []; changes = (over [] 0 0 [] true ∷ over_root ((2, []) ∷ []) true ∷ into [] 1 ((2, (0 ∷ [])) ∷ []) ∷ []); outcome = missing }

abbrev case_35 : Case
case_35 = record { trees = ((r 2 (t 4 (195 ∷ 169 ∷ []) (t 5 (99 ∷ []) o))) ∷ (r 1 (n 1 o (n 1 o o))) ∷ []); mapping = (((1, []), (2, (1 ∷ []))) ∷ []); changes = (over [] 0 0 [] true ∷ []); outcome = accepted (n 2 (t 5 (99 ∷ []) o) o) [] ((1, []) ∷ (1, (1 ∷ [])) ∷ []) 1 (Some ((0 ∷ []) ∷ [])) }

abbrev case_36 : Case
case_36 = record { trees = ((r 3 (t 4 (98 ∷ []) o)) ∷ []); mapping = []; changes = (over_root ((1, []) ∷ []) true ∷ []); outcome = accepted (n 3 (t 4 (98 ∷ []) o) o) ([] ∷ []) ((1, []) ∷ (1, (0 ∷ [])) ∷ []) 1 (Some ((0 ∷ []) ∷ [])) }

abbrev case_37 : Case
case_37 = record { trees = ((r 2 (n 2 (n 3 (t 4 (98 ∷ []) o) (t 5 (99 ∷ []) o)) (n 3 (n 1 (t 4 [] o) (n 2 (t 5 (101 ∷ []) o) o)) o))) ∷ (r 1 (t 4 (102 ∷ []) (n 2 (n 2 (n 3 (t 4 (98 ∷ []) o) (t 5 (99 ∷ []) o)) o) o))) ∷ []); mapping = (((1, (0 ∷ [])), (2, (1 ∷ 0 ∷ []))) ∷ []); changes = (over [] 1 1 [] true ∷ over (0 ∷ []) 1 1 [] true ∷ over (1 ∷ []) 0 0 ((1, (1 ∷ 0 ∷ [])) ∷ []) true ∷ over (0 ∷ 0 ∷ []) 0 0 ((1, (1 ∷ 1 ∷ 0 ∷ [])) ∷ []) true ∷ []); outcome = accepted (n 2 (n 2 (n 3 (t 5 (101 ∷ []) o) o) o) o) ((0 ∷ 0 ∷ 0 ∷ []) ∷ []) ((1, []) ∷ (1, (0 ∷ [])) ∷ (1, (0 ∷ 0 ∷ [])) ∷ (1, (1 ∷ 1 ∷ 0 ∷ [])) ∷ []) 3 (Some ((0 ∷ 1 ∷ 2 ∷ []) ∷ (0 ∷ 2 ∷ 1 ∷ []) ∷ (1 ∷ 0 ∷ 2 ∷ []) ∷ (1 ∷ 2 ∷ 0 ∷ []) ∷ (2 ∷ 0 ∷ 1 ∷ []) ∷ (2 ∷ 1 ∷ 0 ∷ []) ∷ [])) }

abbrev case_38 : Case
case_38 = record { trees = ((r 1 (n 2 o (n 3 o o))) ∷ (r 2 (t 4 (98 ∷ []) (n 3 o o))) ∷ (r 1 (n 1 (n 2 o (n 3 o o)) (n 3 o (n 1 (n 2 o (n 3 o o)) o)))) ∷ []); mapping = (((1, (0 ∷ [])), (2, (1 ∷ []))) ∷ ((1, []), (3, (2 ∷ []))) ∷ ((1, (1 ∷ [])), (3, (1 ∷ []))) ∷ []); changes = (over [] 0 0 ((2, []) ∷ []) true ∷ over [] 1 1 ((2, (0 ∷ [])) ∷ []) true ∷ []); outcome = accepted (n 1 (n 2 (t 4 (98 ∷ []) (n 3 o o)) (t 4 (98 ∷ []) o)) o) ((0 ∷ []) ∷ (1 ∷ []) ∷ []) ((1, []) ∷ (2, []) ∷ (2, (0 ∷ [])) ∷ (2, (1 ∷ [])) ∷ (2, (0 ∷ [])) ∷ []) 2 (Some ((0 ∷ 1 ∷ []) ∷ (1 ∷ 0 ∷ []) ∷ [])) }

abbrev case_39 : Case
case_39 = record { trees = ((r 1 o) ∷ (r 2 (n 1 o (n 1 o o))) ∷ []); mapping = (((1, []), (2, (1 ∷ []))) ∷ []); changes = (over_root ((2, (1 ∷ [])) ∷ []) true ∷ into [] 0 ((2, []) ∷ (2, []) ∷ []) ∷ []); outcome = accepted (n 1 (n 2 (n 1 o (n 1 o o)) (n 2 (n 1 o (n 1 o o)) o)) o) ([] ∷ []) ((2, (1 ∷ [])) ∷ (2, []) ∷ (2, (0 ∷ [])) ∷ (2, (1 ∷ [])) ∷ (2, []) ∷ (2, (0 ∷ [])) ∷ (2, (1 ∷ [])) ∷ []) 2 (Some ((1 ∷ 0 ∷ []) ∷ [])) }

abbrev case_40 : Case
case_40 = record { trees = ((r 1 o) ∷ (r 1 (n 1 o (n 1 (n 1 (t 5 [] o) o) (n 1 o o)))) ∷ (r 3 (n 1 o (n 2 (t 4 (99 ∷ []) o) (n 1 o o)))) ∷ []); mapping = (((1, []), (3, (2 ∷ []))) ∷ []); changes = (over_root ((1, []) ∷ []) true ∷ []); outcome = accepted (n 1 o o) ([] ∷ []) ((1, []) ∷ []) 1 (Some ((0 ∷ []) ∷ [])) }

abbrev case_41 : Case
case_41 = record { trees = ((r 2 (n 3 o (n 1 o (n 2 (n 3 (t 5 (98 ∷ []) (t 5 (99 ∷ []) (t 5 [] o))) (t 5 (101 ∷ []) (t 4 (102 ∷ []) o))) o)))) ∷ (r 2 (n 2 (n 3 (t 5 (98 ∷ []) (t 5 (99 ∷ []) (t 5 [] o))) (t 5 (101 ∷ []) (t 4 (102 ∷ []) o))) o)) ∷ []); mapping = (((1, (2 ∷ [])), (2, (0 ∷ []))) ∷ []); changes = (over (2 ∷ []) 1 1 ((1, (2 ∷ 1 ∷ [])) ∷ []) true ∷ []); outcome = accepted (n 2 (n 3 o (n 1 o (n 2 (n 3 (t 5 (98 ∷ []) (t 5 (99 ∷ []) (t 5 [] o))) (t 5 (101 ∷ []) (t 4 (102 ∷ []) o))) o))) o) ((2 ∷ 1 ∷ []) ∷ []) ((1, []) ∷ (1, (0 ∷ [])) ∷ (1, (1 ∷ [])) ∷ (1, (2 ∷ [])) ∷ (1, (2 ∷ 0 ∷ [])) ∷ (1, (2 ∷ 0 ∷ 0 ∷ [])) ∷ (1, (2 ∷ 0 ∷ 1 ∷ [])) ∷ (1, (2 ∷ 0 ∷ 2 ∷ [])) ∷ (1, (2 ∷ 1 ∷ [])) ∷ (1, (2 ∷ 2 ∷ [])) ∷ []) 1 (Some ((0 ∷ []) ∷ [])) }

abbrev case_42 : Case
case_42 = record { trees = ((r 1 (t 4 [] o)) ∷ (r 3 (t 4 (99 ∷ []) (n 1 (n 1 (t 4 [] o) o) o))) ∷ (r 1 (n 1 (n 1 (t 4 [] o) o) (n 1 (t 4 [] o) o))) ∷ (r 2 (t 5 (104 ∷ []) (n 2 (t 5 (100 ∷ []) (n 2 (t 4 (101 ∷ []) (n 3 (t 4 (102 ∷ []) (t 4 (103 ∷ []) o)) o)) o)) o))) ∷ []); mapping = (((1, []), (2, (1 ∷ 0 ∷ []))) ∷ ((2, (1 ∷ [])), (3, (0 ∷ []))) ∷ ((2, (1 ∷ 0 ∷ [])), (3, (1 ∷ []))) ∷ ((3, (0 ∷ 0 ∷ [])), (4, (1 ∷ 1 ∷ []))) ∷ []); changes = []; outcome = accepted (n 1 (t 4 [] o) o) [] ((1, []) ∷ (1, (0 ∷ [])) ∷ []) 0 (Some ([] ∷ [])) }

abbrev case_43 : Case
case_43 = record { trees = ((r 2 o) ∷ (r 2 (n 2 o (n 2 o o))) ∷ []); mapping = (((1, []), (2, (1 ∷ []))) ∷ []); changes = (into [] 0 [] ∷ []); outcome = accepted (n 2 o o) [] ((1, []) ∷ []) 1 (Some ((0 ∷ []) ∷ [])) }

abbrev case_44 : Case
case_44 = record { trees = ((r 1 (n 2 (t 4 (98 ∷ []) o) o)) ∷ (r 3 (n 2 (t 4 (98 ∷ []) o) (n 1 (n 2 (t 4 (98 ∷ []) o) o) o))) ∷ (r 3 (t 5 (195 ∷ 169 ∷ []) (n 2 (n 1 (n 2 (t 4 (98 ∷ []) o) o) (n 1 (t 4 (99 ∷ []) o) (n 2 (t 4 (98 ∷ []) o) o))) o))) ∷ []); mapping = (((1, (0 ∷ [])), (3, (1 ∷ 1 ∷ []))) ∷ ((1, []), (2, (1 ∷ []))) ∷ []); changes = (into [] 1 [] ∷ over [] 0 0 ((2, []) ∷ []) true ∷ []); outcome = accepted (n 1 (n 3 (n 2 (t 4 (98 ∷ []) o) (n 1 (n 2 (t 4 (98 ∷ []) o) o) o)) o) o) ((0 ∷ []) ∷ []) ((1, []) ∷ (2, []) ∷ (2, (0 ∷ [])) ∷ (2, (0 ∷ 0 ∷ [])) ∷ (2, (1 ∷ [])) ∷ (2, (1 ∷ 0 ∷ [])) ∷ (2, (1 ∷ 0 ∷ 0 ∷ [])) ∷ []) 2 (Some ((0 ∷ 1 ∷ []) ∷ (1 ∷ 0 ∷ []) ∷ [])) }

abbrev case_45 : Case
case_45 = record { trees = ((r 3 (n 3 (n 2 o o) (n 1 (n 3 (t 5 (98 ∷ []) (t 4 (99 ∷ []) o)) (n 3 (t 5 (100 ∷ []) (t 5 [] o)) o)) o))) ∷ (r 1 (n 3 (t 5 (98 ∷ []) (t 4 (99 ∷ []) o)) o)) ∷ []); mapping = (((1, (1 ∷ 0 ∷ [])), (2, (0 ∷ []))) ∷ []); changes = (over [] 1 1 ((1, (1 ∷ [])) ∷ []) true ∷ over (1 ∷ 1 ∷ []) 0 0 ((2, []) ∷ []) true ∷ []); outcome = accepted (n 3 (n 3 (n 2 o o) (n 1 (n 3 (t 5 (98 ∷ []) (t 4 (99 ∷ []) o)) (n 3 (n 1 (n 3 (t 5 (98 ∷ []) (t 4 (99 ∷ []) o)) o) (t 5 [] o)) o)) o)) o) ((1 ∷ []) ∷ []) ((1, []) ∷ (1, (0 ∷ [])) ∷ (1, (0 ∷ 0 ∷ [])) ∷ (1, (1 ∷ [])) ∷ (1, (1 ∷ 0 ∷ [])) ∷ (1, (1 ∷ 0 ∷ 0 ∷ [])) ∷ (1, (1 ∷ 0 ∷ 1 ∷ [])) ∷ (1, (1 ∷ 1 ∷ [])) ∷ (2, []) ∷ (2, (0 ∷ [])) ∷ (2, (0 ∷ 0 ∷ [])) ∷ (2, (0 ∷ 1 ∷ [])) ∷ (1, (1 ∷ 1 ∷ 1 ∷ [])) ∷ []) 2 (Some ((1 ∷ 0 ∷ []) ∷ [])) }

abbrev case_46 : Case
case_46 = record { trees = ((r 3 (n 2 (t 4 (98 ∷ []) o) o)) ∷ []); mapping = []; changes = (over [] 0 0 ((1, []) ∷ []) true ∷ over_root ((1, (0 ∷ [])) ∷ []) true ∷ into [] 1 ((1, (0 ∷ 0 ∷ [])) ∷ []) ∷ into (0 ∷ []) 1 ((1, []) ∷ []) ∷ []); outcome = missing }

abbrev case_47 : Case
case_47 = record { trees = ((r 2 o) ∷ []); mapping = []; changes = (over_root ((1, []) ∷ []) true ∷ into [] 0 [] ∷ []); outcome = accepted (n 2 o o) ([] ∷ []) ((1, []) ∷ []) 2 (Some ((1 ∷ 0 ∷ []) ∷ [])) }

abbrev case_48 : Case
case_48 = record { trees = ((r 2 o) ∷ (r 2 (n 2 o (n 2 o o))) ∷ []); mapping = (((1, []), (2, (1 ∷ []))) ∷ []); changes = (over_root ((1, []) ∷ []) true ∷ into [] 0 ((2, []) ∷ []) ∷ into [] 0 ((2, (1 ∷ [])) ∷ []) ∷ into [] 0 ((2, (1 ∷ [])) ∷ (2, (0 ∷ [])) ∷ []) ∷ []); outcome = accepted (n 2 (n 2 o (n 2 o (n 2 o (n 2 (n 2 o (n 2 o o)) o)))) o) ([] ∷ []) ((1, []) ∷ (2, (1 ∷ [])) ∷ (2, (0 ∷ [])) ∷ (2, (1 ∷ [])) ∷ (2, []) ∷ (2, (0 ∷ [])) ∷ (2, (1 ∷ [])) ∷ []) 4 (Some ((1 ∷ 2 ∷ 3 ∷ 0 ∷ []) ∷ [])) }

abbrev case_49 : Case
case_49 = record { trees = ((r 2 (t 4 (98 ∷ []) (n 1 (t 5 (195 ∷ 169 ∷ []) o) o))) ∷ (r 1 (n 2 (t 4 [] (t 5 (101 ∷ []) o)) (n 3 (n 3 (t 4 (102 ∷ []) (t 4 (195 ∷ 169 ∷ []) o)) (t 5 (104 ∷ []) o)) o))) ∷ (r 2 o) ∷ (r 2 o) ∷ []); mapping = (((1, (1 ∷ [])), (2, (1 ∷ []))) ∷ []); changes = (over [] 1 1 ((2, []) ∷ []) true ∷ []); outcome = accepted (n 2 (t 4 (98 ∷ []) (n 1 (n 2 (t 4 [] (t 5 (101 ∷ []) o)) (n 3 (n 3 (t 4 (102 ∷ []) (t 4 (195 ∷ 169 ∷ []) o)) (t 5 (104 ∷ []) o)) o)) o)) o) ((1 ∷ []) ∷ []) ((1, []) ∷ (1, (0 ∷ [])) ∷ (2, []) ∷ (2, (0 ∷ [])) ∷ (2, (0 ∷ 0 ∷ [])) ∷ (2, (0 ∷ 1 ∷ [])) ∷ (2, (1 ∷ [])) ∷ (2, (1 ∷ 0 ∷ [])) ∷ (2, (1 ∷ 0 ∷ 0 ∷ [])) ∷ (2, (1 ∷ 0 ∷ 1 ∷ [])) ∷ (2, (1 ∷ 1 ∷ [])) ∷ []) 1 (Some ((0 ∷ []) ∷ [])) }

abbrev case_50 : Case
case_50 = record { trees = ((r 3 (n 2 (t 5 (98 ∷ []) (t 4 (99 ∷ []) (t 4 (100 ∷ []) o))) o)) ∷ (r 2 (n 3 (n 2 (t 5 (98 ∷ []) (t 4 (99 ∷ []) (t 4 (100 ∷ []) o))) o) (n 3 (n 2 (t 5 (98 ∷ []) (t 4 (99 ∷ []) (t 4 (100 ∷ []) o))) o) o))) ∷ []); mapping = (((1, []), (2, (0 ∷ []))) ∷ []); changes = (over (0 ∷ []) 0 0 ((1, (0 ∷ 0 ∷ [])) ∷ []) true ∷ over (0 ∷ []) 1 1 [] true ∷ []); outcome = accepted (n 3 (n 2 (t 5 (98 ∷ []) (t 4 (100 ∷ []) o)) o) o) ((0 ∷ 0 ∷ []) ∷ []) ((1, []) ∷ (1, (0 ∷ [])) ∷ (1, (0 ∷ 0 ∷ [])) ∷ (1, (0 ∷ 2 ∷ [])) ∷ []) 2 (Some ((0 ∷ 1 ∷ []) ∷ (1 ∷ 0 ∷ []) ∷ [])) }

abbrev case_51 : Case
case_51 = record { trees = ((r 1 (n 2 (n 2 (t 5 (98 ∷ []) o) (n 2 (t 5 (99 ∷ []) (t 5 (100 ∷ []) o)) o)) o)) ∷ (r 1 (t 4 (101 ∷ []) (n 2 (n 2 (t 5 (99 ∷ []) (t 5 (100 ∷ []) o)) (n 2 (t 5 (99 ∷ []) (t 5 (100 ∷ []) o)) o)) o))) ∷ []); mapping = (((1, (0 ∷ 0 ∷ [])), (2, (1 ∷ []))) ∷ ((1, (0 ∷ 1 ∷ [])), (2, (1 ∷ 1 ∷ []))) ∷ []); changes = (into (0 ∷ 0 ∷ []) 0 [] ∷ over (0 ∷ []) 0 0 [] false ∷ over (0 ∷ 1 ∷ []) 0 0 ((2, (1 ∷ 0 ∷ [])) ∷ []) true ∷ over (0 ∷ 0 ∷ []) 0 0 ((2, (1 ∷ [])) ∷ []) true ∷ over (0 ∷ []) 0 0 [] true ∷ []); outcome = intersecting }

abbrev case_52 : Case
case_52 = record { trees = ((r 3 (n 2 (t 4 (98 ∷ []) o) (n 3 (t 5 (99 ∷ []) (t 5 (100 ∷ []) o)) (n 1 o o)))) ∷ (r 1 (n 1 o (n 3 (n 1 o o) (n 3 o o)))) ∷ (r 1 (t 5 (102 ∷ []) (n 1 (t 5 (101 ∷ []) (n 3 (n 2 (t 4 (98 ∷ []) o) (n 3 (t 5 (99 ∷ []) (t 5 (100 ∷ []) o)) (n 1 o o))) o)) o))) ∷ (r 2 o) ∷ (r 2 (t 4 (195 ∷ 169 ∷ []) (n 2 o o))) ∷ []); mapping = (((1, (2 ∷ [])), (2, (1 ∷ []))) ∷ ((3, (1 ∷ 1 ∷ 1 ∷ [])), (5, (1 ∷ []))) ∷ []); changes = (over_root ((3, []) ∷ []) true ∷ over (1 ∷ []) 1 1 [] true ∷ into [] 3 [] ∷ over [] 2 2 ((2, []) ∷ (5, (0 ∷ [])) ∷ []) false ∷ over (1 ∷ []) 0 0 ((2, []) ∷ (2, []) ∷ []) false ∷ []); outcome = missing }

abbrev case_53 : Case
case_53 = record { trees = ((r 1 (t 4 (98 ∷ []) (t 5 [] o))) ∷ (r 2 o) ∷ (r 2 (n 1 (t 4 (98 ∷ []) (t 5 [] o)) (n 3 (n 2 o (n 3 (t 5 (100 ∷ []) (t 5 (101 ∷ []) o)) o)) (n 2 o o)))) ∷ (r 1 (t 5 (102 ∷ []) (n 1 o o))) ∷ []); mapping = (((1, []), (3, (0 ∷ []))) ∷ ((2, []), (3, (2 ∷ []))) ∷ ((3, (1 ∷ [])), (4, (1 ∷ []))) ∷ []); changes = (over [] 0 0 ((1, (0 ∷ [])) ∷ []) true ∷ over_root ((2, []) ∷ []) true ∷ over [] 1 1 ((4, (1 ∷ [])) ∷ []) true ∷ over [] 0 1 [] false ∷ over [] 1 1 ((2, []) ∷ (4, []) ∷ []) false ∷ []); outcome = intersecting }

abbrev case_54 : Case
case_54 = record { trees = ((r 3 o) ∷ (r 2 (t 4 (98 ∷ []) (n 2 o o))) ∷ []); mapping = (((1, []), (2, (1 ∷ []))) ∷ []); changes = (over_root ((2, (1 ∷ [])) ∷ []) true ∷ []); outcome = accepted (n 2 o o) ([] ∷ []) ((2, (1 ∷ [])) ∷ []) 1 (Some ((0 ∷ []) ∷ [])) }

abbrev case_55 : Case
case_55 = record { trees = ((r 1 (t 5 (98 ∷ []) o)) ∷ (r 1 (t 5 (195 ∷ 169 ∷ []) o)) ∷ (r 1 (n 1 (t 5 (195 ∷ 169 ∷ []) o) (n 1 (n 3 (t 4 (100 ∷ []) (t 5 [] (t 5 (102 ∷ []) o))) o) o))) ∷ []); mapping = (((2, []), (3, (0 ∷ []))) ∷ []); changes = (over [] 0 0 ((3, (0 ∷ 0 ∷ [])) ∷ []) false ∷ over_root ((3, []) ∷ []) true ∷ []); outcome = missing }

abbrev case_56 : Case
case_56 = record { trees = ((r 1 (t 5 (98 ∷ []) (t 4 (99 ∷ []) (n 3 o o)))) ∷ (r 1 o) ∷ (r 1 (t 4 (105 ∷ []) (n 3 (n 3 (t 5 (100 ∷ []) (n 2 (t 4 (101 ∷ []) (t 5 (102 ∷ []) (t 5 (103 ∷ []) o))) (n 1 (t 4 [] o) o))) (n 3 o o)) o))) ∷ (r 2 o) ∷ []); mapping = (((2, []), (3, (1 ∷ []))) ∷ []); changes = (into [] 1 ((4, []) ∷ []) ∷ []); outcome = accepted (n 1 (t 5 (98 ∷ []) (n 2 o (t 4 (99 ∷ []) (n 3 o o)))) o) ((1 ∷ []) ∷ []) ((1, []) ∷ (1, (0 ∷ [])) ∷ (4, []) ∷ (1, (1 ∷ [])) ∷ (1, (2 ∷ [])) ∷ []) 1 (Some ((0 ∷ []) ∷ [])) }

abbrev case_57 : Case
case_57 = record { trees = ((r 1 (n 3 (t 5 (98 ∷ []) o) (n 3 (t 4 (99 ∷ []) (t 5 (100 ∷ []) o)) o))) ∷ []); mapping = []; changes = (over [] 1 1 ((1, (1 ∷ [])) ∷ []) true ∷ over_root ((1, (1 ∷ [])) ∷ []) true ∷ over (0 ∷ []) 0 0 ((1, (0 ∷ 0 ∷ [])) ∷ []) true ∷ []); outcome = missing }

abbrev case_58 : Case
case_58 = record { trees = ((r 3 o) ∷ (r 2 (t 5 (195 ∷ 169 ∷ []) (n 3 o o))) ∷ (r 3 (t 5 (99 ∷ []) (n 3 o o))) ∷ []); mapping = (((1, []), (2, (1 ∷ []))) ∷ []); changes = (over_root ((1, []) ∷ []) true ∷ []); outcome = accepted (n 3 o o) ([] ∷ []) ((1, []) ∷ []) 1 (Some ((0 ∷ []) ∷ [])) }

abbrev case_59 : Case
case_59 = record { trees = ((r 2 (n 1 (t 5 (98 ∷ []) (t 4 (99 ∷ []) o)) (n 1 (t 5 [] (t 5 (195 ∷ 169 ∷ []) o)) o))) ∷ []); mapping = []; changes = (into [] 0 [] ∷ []); outcome = accepted (n 2 (n 1 (t 5 (98 ∷ []) (t 4 (99 ∷ []) o)) (n 1 (t 5 [] (t 5 (195 ∷ 169 ∷ []) o)) o)) o) [] ((1, []) ∷ (1, (0 ∷ [])) ∷ (1, (0 ∷ 0 ∷ [])) ∷ (1, (0 ∷ 1 ∷ [])) ∷ (1, (1 ∷ [])) ∷ (1, (1 ∷ 0 ∷ [])) ∷ (1, (1 ∷ 1 ∷ [])) ∷ []) 1 (Some ((0 ∷ []) ∷ [])) }

abbrev case_60 : Case
case_60 = record { trees = ((r 3 (t 4 (98 ∷ []) (n 1 (t 4 [] o) o))) ∷ (r 2 (n 1 (n 1 (t 4 (100 ∷ []) o) o) (t 5 (101 ∷ []) (n 3 (t 4 (98 ∷ []) (n 1 (t 4 [] o) o)) o)))) ∷ []); mapping = (((1, []), (2, (2 ∷ []))) ∷ []); changes = (over [] 1 1 ((2, []) ∷ []) true ∷ over [] 1 1 ((2, (2 ∷ 0 ∷ [])) ∷ []) false ∷ over [] 0 0 ((2, (0 ∷ 0 ∷ [])) ∷ []) true ∷ over_root ((2, (0 ∷ [])) ∷ []) true ∷ into [] 1 ((2, (2 ∷ 1 ∷ [])) ∷ (2, (0 ∷ 0 ∷ [])) ∷ []) ∷ into [] 2 ((2, (2 ∷ 1 ∷ [])) ∷ (2, (2 ∷ 0 ∷ [])) ∷ []) ∷ []); outcome = intersecting }

abbrev case_61 : Case
case_61 = record { trees = ((r 1 (n 2 (n 2 (n 2 (t 5 (98 ∷ []) o) o) o) o)) ∷ []); mapping = []; changes = (into [] 0 ((1, []) ∷ []) ∷ into (0 ∷ 0 ∷ 0 ∷ []) 1 ((1, []) ∷ (1, (0 ∷ 0 ∷ [])) ∷ []) ∷ over (0 ∷ []) 0 0 ((1, (0 ∷ 0 ∷ [])) ∷ (1, (0 ∷ [])) ∷ []) false ∷ []); outcome = accepted (n 1 (n 1 (n 2 (n 2 (n 2 (t 5 (98 ∷ []) o) o) o) o) (n 2 (n 2 (n 2 (t 5 (98 ∷ []) o) o) (n 2 (n 2 (n 2 (t 5 (98 ∷ []) o) o) o) o)) o)) o) ((0 ∷ []) ∷ (1 ∷ 0 ∷ []) ∷ (1 ∷ 1 ∷ []) ∷ []) ((1, []) ∷ (1, []) ∷ (1, (0 ∷ [])) ∷ (1, (0 ∷ 0 ∷ [])) ∷ (1, (0 ∷ 0 ∷ 0 ∷ [])) ∷ (1, (0 ∷ 0 ∷ 0 ∷ 0 ∷ [])) ∷ (1, (0 ∷ [])) ∷ (1, (0 ∷ 0 ∷ [])) ∷ (1, (0 ∷ 0 ∷ 0 ∷ [])) ∷ (1, (0 ∷ 0 ∷ 0 ∷ 0 ∷ [])) ∷ (1, (0 ∷ [])) ∷ (1, (0 ∷ 0 ∷ [])) ∷ (1, (0 ∷ 0 ∷ 0 ∷ [])) ∷ (1, (0 ∷ 0 ∷ 0 ∷ 0 ∷ [])) ∷ []) 2 (Some ((0 ∷ 1 ∷ []) ∷ (1 ∷ 0 ∷ []) ∷ [])) }

abbrev case_62 : Case
case_62 = record { trees = ((r 1 (n 2 (t 5 [] (t 4 [] o)) (t 5 (100 ∷ []) o))) ∷ (r 3 (t 5 (102 ∷ []) (n 2 (n 2 (t 5 [] (t 4 [] o)) (t 4 (101 ∷ []) (n 2 (t 5 [] (t 4 [] o)) o))) o))) ∷ (r 3 (n 3 (t 5 (102 ∷ []) (n 2 (n 2 (t 5 [] (t 4 [] o)) (t 4 (101 ∷ []) (n 2 (t 5 [] (t 4 [] o)) o))) o)) o)) ∷ (r 2 o) ∷ []); mapping = (((1, (0 ∷ [])), (2, (1 ∷ 0 ∷ []))) ∷ ((2, []), (3, (0 ∷ []))) ∷ []); changes = (over_root ((3, []) ∷ []) true ∷ into [] 1 ((3, (0 ∷ 0 ∷ [])) ∷ []) ∷ over [] 1 1 ((2, []) ∷ []) true ∷ over [] 0 0 ((2, []) ∷ []) true ∷ over (0 ∷ []) 0 0 ((4, []) ∷ []) true ∷ []); outcome = missing }

abbrev case_63 : Case
case_63 = record { trees = ((r 3 (t 5 (98 ∷ []) o)) ∷ (r 1 (t 4 (99 ∷ []) (n 2 (n 3 (t 5 (98 ∷ []) o) (n 3 (t 5 (98 ∷ []) o) o)) o))) ∷ []); mapping = (((1, []), (2, (1 ∷ 1 ∷ []))) ∷ []); changes = []; outcome = accepted (n 3 (t 5 (98 ∷ []) o) o) [] ((1, []) ∷ (1, (0 ∷ [])) ∷ []) 0 (Some ([] ∷ [])) }

abbrev case_64 : Case
case_64 = record { trees = ((r 2 o) ∷ []); mapping = []; changes = (into [] 0 [] ∷ []); outcome = accepted (n 2 o o) [] ((1, []) ∷ []) 1 (Some ((0 ∷ []) ∷ [])) }

abbrev case_65 : Case
case_65 = record { trees = ((r 1 (n 2 (n 1 o (n 1 (t 5 (98 ∷ []) (t 4 (99 ∷ []) o)) o)) (n 1 o o))) ∷ (r 1 (n 1 o (n 3 o o))) ∷ (r 3 (t 5 (101 ∷ []) (n 3 (n 1 o (t 4 [] (n 3 o o))) o))) ∷ (r 1 (n 3 (t 5 (101 ∷ []) (n 3 (n 1 o (t 4 [] (n 3 o o))) o)) (n 1 (n 3 o (t 5 (102 ∷ []) (t 4 (103 ∷ []) o))) o))) ∷ []); mapping = (((2, (0 ∷ [])), (3, (1 ∷ 0 ∷ []))) ∷ ((2, (1 ∷ [])), (3, (1 ∷ 2 ∷ []))) ∷ ((3, []), (4, (0 ∷ []))) ∷ []); changes = (into (0 ∷ 1 ∷ []) 2 [] ∷ []); outcome = accepted (n 1 (n 2 (n 1 o (n 1 (t 5 (98 ∷ []) (t 4 (99 ∷ []) o)) o)) (n 1 o o)) o) [] ((1, []) ∷ (1, (0 ∷ [])) ∷ (1, (0 ∷ 0 ∷ [])) ∷ (1, (0 ∷ 1 ∷ [])) ∷ (1, (0 ∷ 1 ∷ 0 ∷ [])) ∷ (1, (0 ∷ 1 ∷ 1 ∷ [])) ∷ (1, (1 ∷ [])) ∷ []) 1 (Some ((0 ∷ []) ∷ [])) }

abbrev case_66 : Case
case_66 = record { trees = ((r 3 (t 4 (98 ∷ []) o)) ∷ (r 2 o) ∷ (r 2 (n 2 o o)) ∷ []); mapping = []; changes = (over [] 0 0 [] true ∷ over [] 0 0 ((3, []) ∷ (1, []) ∷ []) false ∷ into [] 0 ((1, (0 ∷ [])) ∷ []) ∷ over [] 0 0 [] false ∷ into [] 0 [] ∷ []); outcome = intersecting }

abbrev case_67 : Case
case_67 = record { trees = ((r 1 (t 5 (98 ∷ []) (n 1 o o))) ∷ (r 2 (t 4 (101 ∷ []) (n 1 (n 1 o (n 1 (n 2 (t 4 (99 ∷ []) (t 4 (100 ∷ []) o)) o) (n 1 o o))) o))) ∷ []); mapping = (((1, (1 ∷ [])), (2, (1 ∷ 2 ∷ []))) ∷ []); changes = (over [] 1 1 [] true ∷ into [] 0 [] ∷ over [] 0 0 ((1, (0 ∷ [])) ∷ (2, (1 ∷ 0 ∷ [])) ∷ []) false ∷ []); outcome = accepted (n 1 (t 5 (98 ∷ []) (n 1 o o)) o) ((0 ∷ []) ∷ (1 ∷ []) ∷ []) ((1, []) ∷ (1, (0 ∷ [])) ∷ (2, (1 ∷ 0 ∷ [])) ∷ []) 3 (Some ((0 ∷ 1 ∷ 2 ∷ []) ∷ (0 ∷ 2 ∷ 1 ∷ []) ∷ (1 ∷ 0 ∷ 2 ∷ []) ∷ (1 ∷ 2 ∷ 0 ∷ []) ∷ (2 ∷ 0 ∷ 1 ∷ []) ∷ (2 ∷ 1 ∷ 0 ∷ []) ∷ [])) }

abbrev case_68 : Case
case_68 = record { trees = ((r 2 o) ∷ (r 3 (t 4 [] (n 2 o o))) ∷ (r 2 (t 5 (99 ∷ []) (n 1 (n 2 o (n 2 o o)) o))) ∷ (r 2 (t 5 [] (n 2 (n 2 o (t 4 [] o)) o))) ∷ []); mapping = (((1, []), (3, (1 ∷ 0 ∷ []))) ∷ []); changes = (over_root ((2, []) ∷ []) true ∷ []); outcome = accepted (n 3 (t 4 [] (n 2 o o)) o) ([] ∷ []) ((2, []) ∷ (2, (0 ∷ [])) ∷ (2, (1 ∷ [])) ∷ []) 1 (Some ((0 ∷ []) ∷ [])) }

abbrev case_69 : Case
case_69 = record { trees = ((r 1 (n 3 (t 4 (98 ∷ []) (t 5 (99 ∷ []) o)) (t 5 (100 ∷ []) o))) ∷ (r 3 (t 4 (104 ∷ []) (n 3 (t 4 (101 ∷ []) (n 3 (t 4 (98 ∷ []) (t 5 (99 ∷ []) o)) (n 2 (n 1 (t 5 (102 ∷ []) (t 5 (103 ∷ []) o)) o) o))) o))) ∷ (r 1 (t 5 (105 ∷ []) (n 3 (n 1 (t 5 (102 ∷ []) (t 5 (103 ∷ []) o)) o) o))) ∷ (r 2 o) ∷ []); mapping = (((1, (0 ∷ [])), (2, (1 ∷ 1 ∷ []))) ∷ ((2, (1 ∷ 2 ∷ 0 ∷ [])), (3, (1 ∷ 0 ∷ []))) ∷ []); changes = (over (0 ∷ []) 0 0 ((1, (0 ∷ 0 ∷ [])) ∷ []) true ∷ into (0 ∷ []) 2 ((3, (0 ∷ [])) ∷ []) ∷ over_root ((4, []) ∷ []) true ∷ []); outcome = missing }

abbrev case_70 : Case
case_70 = record { trees = ((r 2 (n 3 o o)) ∷ (r 2 o) ∷ (r 2 (t 4 (99 ∷ []) (n 1 (t 4 (98 ∷ []) o) o))) ∷ (r 2 (n 2 o o)) ∷ (r 2 o) ∷ []); mapping = (((1, (0 ∷ [])), (3, (1 ∷ []))) ∷ []); changes = (over [] 0 0 ((4, []) ∷ (2, []) ∷ []) false ∷ over [] 0 0 ((4, (0 ∷ [])) ∷ []) true ∷ []); outcome = intersecting }

abbrev case_71 : Case
case_71 = record { trees = ((r 1 (n 1 (t 5 (98 ∷ []) (n 3 (t 5 (99 ∷ []) o) o)) (t 4 [] (n 1 (t 4 (101 ∷ []) (t 5 (102 ∷ []) o)) o)))) ∷ []); mapping = []; changes = (into (2 ∷ []) 0 ((1, []) ∷ []) ∷ into (2 ∷ []) 0 ((1, (0 ∷ 0 ∷ [])) ∷ (1, (0 ∷ [])) ∷ []) ∷ over [] 2 2 ((1, (0 ∷ 0 ∷ [])) ∷ []) false ∷ over (0 ∷ []) 1 1 [] false ∷ []); outcome = accepted (n 1 (n 1 (t 5 (98 ∷ []) o) (t 4 [] (t 5 (98 ∷ []) o))) o) ((2 ∷ []) ∷ []) ((1, []) ∷ (1, (0 ∷ [])) ∷ (1, (0 ∷ 0 ∷ [])) ∷ (1, (1 ∷ [])) ∷ (1, (0 ∷ 0 ∷ [])) ∷ []) 2 (Some ((0 ∷ 1 ∷ []) ∷ (1 ∷ 0 ∷ []) ∷ [])) }

abbrev case_72 : Case
case_72 = record { trees = ((r 1 o) ∷ (r 3 (t 4 (98 ∷ []) (n 1 (n 1 o (n 1 o (n 1 o o))) o))) ∷ (r 2 (t 5 (99 ∷ []) (n 1 o (n 1 o o)))) ∷ (r 2 (t 5 (100 ∷ []) (n 1 (n 1 o o) o))) ∷ (r 1 o) ∷ []); mapping = (((1, []), (4, (1 ∷ []))) ∷ ((2, (1 ∷ 0 ∷ [])), (3, (1 ∷ []))) ∷ ((2, (1 ∷ 2 ∷ [])), (4, (1 ∷ 0 ∷ []))) ∷ []); changes = (over_root ((5, []) ∷ []) true ∷ []); outcome = accepted (n 1 o o) ([] ∷ []) ((5, []) ∷ []) 1 (Some ((0 ∷ []) ∷ [])) }

abbrev case_73 : Case
case_73 = record { trees = ((r 3 o) ∷ []); mapping = []; changes = (over_root ((1, []) ∷ []) true ∷ []); outcome = accepted (n 3 o o) ([] ∷ []) ((1, []) ∷ []) 1 (Some ((0 ∷ []) ∷ [])) }

abbrev case_74 : Case
case_74 = record { trees = ((r 1 (n 1 o o)) ∷ []); mapping = []; changes = (over [] 0 0 [] true ∷ over_root ((1, []) ∷ []) true ∷ []); outcome = accepted (n 1 o o) ([] ∷ []) ((1, []) ∷ []) 2 (Some ((0 ∷ 1 ∷ []) ∷ [])) }

abbrev case_75 : Case
case_75 = record { trees = ((r 1 (t 5 (98 ∷ []) o)) ∷ (r 3 (n 1 (t 5 (98 ∷ []) o) o)) ∷ (r 3 (t 4 (102 ∷ []) (n 1 (n 3 (n 1 (t 5 (98 ∷ []) o) o) (n 2 (n 2 (t 4 (99 ∷ []) (t 4 (100 ∷ []) o)) (n 1 (t 4 (101 ∷ []) o) o)) (n 1 (t 5 (98 ∷ []) o) o))) o))) ∷ (r 2 o) ∷ (r 3 (t 5 (103 ∷ []) o)) ∷ []); mapping = (((1, []), (3, (1 ∷ 1 ∷ []))) ∷ ((2, []), (3, (1 ∷ 0 ∷ []))) ∷ []); changes = (over [] 0 0 ((4, []) ∷ (2, []) ∷ []) false ∷ over [] 0 0 ((4, []) ∷ []) false ∷ over_root ((3, []) ∷ []) true ∷ over [] 0 0 ((5, (0 ∷ [])) ∷ []) false ∷ []); outcome = intersecting }

abbrev case_76 : Case
case_76 = record { trees = ((r 1 (t 4 [] (n 2 (n 1 (t 5 (195 ∷ 169 ∷ []) (t 5 (100 ∷ []) o)) (t 4 (101 ∷ []) o)) o))) ∷ (r 3 (t 5 (102 ∷ []) (n 1 o o))) ∷ (r 3 (n 1 o (t 4 (103 ∷ []) o))) ∷ (r 3 (n 1 (t 5 (195 ∷ 169 ∷ []) (t 5 (100 ∷ []) o)) (n 3 (n 3 o (n 1 (t 4 [] (t 5 (105 ∷ []) o)) (n 2 (t 4 (106 ∷ []) (t 4 (195 ∷ 169 ∷ []) o)) o))) (n 3 (n 1 o (t 4 (103 ∷ []) o)) o)))) ∷ []); mapping = (((1, (1 ∷ [])), (2, (1 ∷ []))) ∷ ((2, (1 ∷ [])), (3, (0 ∷ []))) ∷ ((1, (1 ∷ 0 ∷ [])), (4, (0 ∷ []))) ∷ ((3, []), (4, (2 ∷ []))) ∷ []); changes = (over (1 ∷ []) 0 0 [] true ∷ []); outcome = accepted (n 1 (t 4 [] (n 2 (t 4 (101 ∷ []) o) o)) o) [] ((1, []) ∷ (1, (0 ∷ [])) ∷ (1, (1 ∷ [])) ∷ (1, (1 ∷ 1 ∷ [])) ∷ []) 1 (Some ((0 ∷ []) ∷ [])) }

abbrev case_77 : Case
case_77 = record { trees = ((r 1 (t 5 (98 ∷ []) o)) ∷ []); mapping = []; changes = []; outcome = accepted (n 1 (t 5 (98 ∷ []) o) o) [] ((1, []) ∷ (1, (0 ∷ [])) ∷ []) 0 (Some ([] ∷ [])) }

abbrev case_78 : Case
case_78 = record { trees = ((r 3 (n 1 o (n 2 (t 4 (98 ∷ []) (t 5 (99 ∷ []) (t 4 (100 ∷ []) o))) o))) ∷ (r 1 (n 3 (n 2 (t 5 [] o) o) (n 1 o (t 5 (102 ∷ []) o)))) ∷ (r 1 (t 5 [] (n 2 (n 3 (n 1 o (n 2 (t 4 (98 ∷ []) (t 5 (99 ∷ []) (t 4 (100 ∷ []) o))) o)) o) o))) ∷ []); mapping = (((1, (0 ∷ [])), (2, (0 ∷ []))) ∷ ((2, (0 ∷ [])), (3, (1 ∷ []))) ∷ ((1, []), (3, (1 ∷ 0 ∷ []))) ∷ []); changes = (over_root ((1, (0 ∷ [])) ∷ []) true ∷ over [] 0 0 ((1, (1 ∷ [])) ∷ []) true ∷ over (1 ∷ []) 0 0 ((3, (1 ∷ 0 ∷ 0 ∷ [])) ∷ []) true ∷ over (1 ∷ []) 2 2 [] true ∷ []); outcome = missing }

abbrev case_79 : Case
case_79 = record { trees = ((r 3 (n 3 (n 1 (n 2 (t 5 (98 ∷ []) (t 4 (195 ∷ 169 ∷ []) o)) (t 5 (100 ∷ []) o)) (t 4 (195 ∷ 169 ∷ []) (n 1 (n 3 (t 5 (102 ∷ []) o) o) o))) o)) ∷ []); mapping = []; changes = (over (0 ∷ 0 ∷ 0 ∷ []) 0 0 ((1, (0 ∷ 0 ∷ 0 ∷ 0 ∷ [])) ∷ []) true ∷ over (0 ∷ []) 0 0 ((1, (0 ∷ [])) ∷ []) true ∷ []); outcome = accepted (n 3 (n 3 (n 3 (n 1 (n 2 (t 5 (98 ∷ []) (t 4 (195 ∷ 169 ∷ []) o)) (t 5 (100 ∷ []) o)) (t 4 (195 ∷ 169 ∷ []) (n 1 (n 3 (t 5 (102 ∷ []) o) o) o))) (t 4 (195 ∷ 169 ∷ []) (n 1 (n 3 (t 5 (102 ∷ []) o) o) o))) o) o) ((0 ∷ 0 ∷ []) ∷ []) ((1, []) ∷ (1, (0 ∷ [])) ∷ (1, (0 ∷ [])) ∷ (1, (0 ∷ 0 ∷ [])) ∷ (1, (0 ∷ 0 ∷ 0 ∷ [])) ∷ (1, (0 ∷ 0 ∷ 0 ∷ 0 ∷ [])) ∷ (1, (0 ∷ 0 ∷ 0 ∷ 1 ∷ [])) ∷ (1, (0 ∷ 0 ∷ 1 ∷ [])) ∷ (1, (0 ∷ 1 ∷ [])) ∷ (1, (0 ∷ 2 ∷ [])) ∷ (1, (0 ∷ 2 ∷ 0 ∷ [])) ∷ (1, (0 ∷ 2 ∷ 0 ∷ 0 ∷ [])) ∷ (1, (0 ∷ 1 ∷ [])) ∷ (1, (0 ∷ 2 ∷ [])) ∷ (1, (0 ∷ 2 ∷ 0 ∷ [])) ∷ (1, (0 ∷ 2 ∷ 0 ∷ 0 ∷ [])) ∷ []) 2 (Some ((0 ∷ 1 ∷ []) ∷ [])) }

abbrev case_80 : Case
case_80 = record { trees = ((r 1 o) ∷ (r 3 o) ∷ (r 1 (n 1 o (n 1 o (n 1 o o)))) ∷ (r 1 (t 4 (98 ∷ []) (n 2 (n 1 o (n 3 o o)) o))) ∷ []); mapping = (((1, []), (4, (1 ∷ 0 ∷ []))) ∷ ((3, (0 ∷ [])), (4, (1 ∷ []))) ∷ ((2, []), (4, (1 ∷ 1 ∷ []))) ∷ []); changes = (over_root ((2, []) ∷ []) true ∷ into [] 0 ((4, (1 ∷ [])) ∷ []) ∷ []); outcome = missing }

abbrev case_81 : Case
case_81 = record { trees = ((r 1 (n 2 (t 4 (98 ∷ []) (t 4 (99 ∷ []) (t 5 (195 ∷ 169 ∷ []) o))) (n 3 (t 5 (101 ∷ []) (t 5 [] o)) (t 4 (103 ∷ []) o)))) ∷ (r 2 (n 3 (t 5 (101 ∷ []) (t 5 [] o)) (t 5 (104 ∷ []) (n 2 (t 4 (98 ∷ []) (t 4 (99 ∷ []) (t 5 (195 ∷ 169 ∷ []) o))) o)))) ∷ (r 3 o) ∷ []); mapping = (((1, (1 ∷ [])), (2, (0 ∷ []))) ∷ ((1, (0 ∷ [])), (2, (2 ∷ []))) ∷ []); changes = (over (0 ∷ []) 2 2 ((3, []) ∷ []) false ∷ over (0 ∷ []) 1 1 ((1, []) ∷ []) true ∷ over (1 ∷ []) 0 0 ((1, (2 ∷ [])) ∷ []) true ∷ over (0 ∷ []) 0 2 ((3, []) ∷ (3, []) ∷ []) false ∷ []); outcome = intersecting }

abbrev case_82 : Case
case_82 = record { trees = ((r 3 (n 1 (t 4 (98 ∷ []) (t 5 (99 ∷ []) o)) (t 5 [] (n 2 (n 3 (t 5 (101 ∷ []) o) (n 2 (t 4 (102 ∷ []) o) o)) o)))) ∷ (r 2 (t 5 (106 ∷ []) (n 2 (n 2 (t 4 (102 ∷ []) o) (t 4 (103 ∷ []) (n 2 (n 2 (t 4 (104 ∷ []) (t 4 (105 ∷ []) o)) (n 3 o o)) o))) o))) ∷ (r 2 (t 5 (107 ∷ []) (n 3 o o))) ∷ (r 1 o) ∷ []); mapping = (((1, (0 ∷ [])), (2, (1 ∷ []))) ∷ ((1, (2 ∷ 1 ∷ [])), (2, (1 ∷ 0 ∷ []))) ∷ []); changes = (into [] 2 [] ∷ into [] 3 ((4, []) ∷ []) ∷ over [] 0 0 ((4, []) ∷ []) true ∷ over (0 ∷ []) 0 0 ((3, []) ∷ []) true ∷ over (2 ∷ []) 1 1 ((4, []) ∷ []) true ∷ []); outcome = missing }

abbrev case_83 : Case
case_83 = record { trees = ((r 2 (n 1 (t 4 (98 ∷ []) o) (n 2 (t 5 (195 ∷ 169 ∷ []) (t 5 [] (t 4 (101 ∷ []) o))) o))) ∷ []); mapping = []; changes = (into (1 ∷ []) 1 ((1, (0 ∷ [])) ∷ []) ∷ over [] 0 0 [] false ∷ into (0 ∷ []) 1 ((1, []) ∷ []) ∷ []); outcome = accepted (n 2 (n 2 (t 5 (195 ∷ 169 ∷ []) (n 1 (t 4 (98 ∷ []) o) (t 5 [] (t 4 (101 ∷ []) o)))) o) o) ((0 ∷ 1 ∷ []) ∷ []) ((1, []) ∷ (1, (1 ∷ [])) ∷ (1, (1 ∷ 0 ∷ [])) ∷ (1, (0 ∷ [])) ∷ (1, (0 ∷ 0 ∷ [])) ∷ (1, (1 ∷ 1 ∷ [])) ∷ (1, (1 ∷ 2 ∷ [])) ∷ []) 2 (Some ((0 ∷ 1 ∷ []) ∷ (1 ∷ 0 ∷ []) ∷ [])) }

abbrev case_84 : Case
case_84 = record { trees = ((r 3 (t 4 [] o)) ∷ (r 3 (n 3 (t 4 [] o) (n 3 (n 3 (t 5 (195 ∷ 169 ∷ []) o) (t 5 [] o)) o))) ∷ (r 3 (t 4 (101 ∷ []) (n 2 o o))) ∷ []); mapping = (((1, []), (2, (1 ∷ []))) ∷ []); changes = (over [] 0 0 [] false ∷ []); outcome = accepted (n 3 o o) [] ((1, []) ∷ []) 1 (Some ((0 ∷ []) ∷ [])) }

abbrev case_85 : Case
case_85 = record { trees = ((r 1 o) ∷ (r 3 (t 4 (98 ∷ []) (n 2 o o))) ∷ (r 2 (t 5 (99 ∷ []) (n 1 (n 3 (t 4 (98 ∷ []) (n 2 o o)) o) o))) ∷ (r 1 (n 1 o o)) ∷ []); mapping = (((1, []), (4, (0 ∷ []))) ∷ ((2, []), (3, (1 ∷ 0 ∷ []))) ∷ []); changes = (into [] 0 ((2, (0 ∷ [])) ∷ []) ∷ over_root ((3, []) ∷ []) true ∷ into [] 0 ((4, []) ∷ (1, []) ∷ []) ∷ []); outcome = missing }

abbrev case_86 : Case
case_86 = record { trees = ((r 2 (t 5 (98 ∷ []) (n 1 (t 5 [] (t 5 (100 ∷ []) o)) o))) ∷ []); mapping = []; changes = (into (1 ∷ []) 0 [] ∷ []); outcome = accepted (n 2 (t 5 (98 ∷ []) (n 1 (t 5 [] (t 5 (100 ∷ []) o)) o)) o) [] ((1, []) ∷ (1, (0 ∷ [])) ∷ (1, (1 ∷ [])) ∷ (1, (1 ∷ 0 ∷ [])) ∷ (1, (1 ∷ 1 ∷ [])) ∷ []) 1 (Some ((0 ∷ []) ∷ [])) }

abbrev case_87 : Case
case_87 = record { trees = ((r 1 o) ∷ (r 2 (t 5 (104 ∷ []) (n 1 (n 1 o (n 1 (t 5 (98 ∷ []) (t 4 (99 ∷ []) (t 4 (100 ∷ []) o))) (n 1 (n 2 (t 4 (101 ∷ []) (t 4 (102 ∷ []) (t 4 (103 ∷ []) o))) o) o))) o))) ∷ (r 3 o) ∷ (r 3 (t 5 (107 ∷ []) (n 2 (t 5 (105 ∷ []) (t 4 (106 ∷ []) (n 1 o o))) o))) ∷ (r 2 (t 5 (108 ∷ []) (n 2 o o))) ∷ []); mapping = (((1, []), (4, (1 ∷ 2 ∷ []))) ∷ ((2, (1 ∷ [])), (4, (1 ∷ []))) ∷ ((3, []), (5, (1 ∷ []))) ∷ []); changes = (into [] 0 ((5, (0 ∷ [])) ∷ []) ∷ []); outcome = accepted (n 1 (t 5 (108 ∷ []) o) o) ((0 ∷ []) ∷ []) ((1, []) ∷ (5, (0 ∷ [])) ∷ []) 1 (Some ((0 ∷ []) ∷ [])) }

abbrev case_88 : Case
case_88 = record { trees = ((r 2 (t 4 (98 ∷ []) o)) ∷ (r 2 (n 2 (t 4 (98 ∷ []) o) (t 4 (99 ∷ []) o))) ∷ (r 2 (t 4 (101 ∷ []) (n 1 (n 3 (n 1 o (t 5 (100 ∷ []) (n 3 o o))) o) o))) ∷ []); mapping = (((2, (0 ∷ [])), (3, (1 ∷ 0 ∷ []))) ∷ []); changes = (over [] 0 0 [] true ∷ into [] 0 ((3, []) ∷ []) ∷ into [] 1 ((2, []) ∷ []) ∷ []); outcome = accepted (n 2 (n 2 (t 4 (101 ∷ []) (n 1 (n 3 (n 1 o (t 5 (100 ∷ []) (n 3 o o))) o) o)) (n 2 (n 2 (t 4 (98 ∷ []) o) (t 4 (99 ∷ []) o)) o)) o) ((0 ∷ []) ∷ (1 ∷ []) ∷ []) ((1, []) ∷ (3, []) ∷ (3, (0 ∷ [])) ∷ (3, (1 ∷ [])) ∷ (3, (1 ∷ 0 ∷ [])) ∷ (3, (1 ∷ 0 ∷ 0 ∷ [])) ∷ (3, (1 ∷ 0 ∷ 1 ∷ [])) ∷ (3, (1 ∷ 0 ∷ 2 ∷ [])) ∷ (2, []) ∷ (2, (0 ∷ [])) ∷ (2, (0 ∷ 0 ∷ [])) ∷ (2, (1 ∷ [])) ∷ []) 3 (Some ((0 ∷ 1 ∷ 2 ∷ []) ∷ (0 ∷ 2 ∷ 1 ∷ []) ∷ (1 ∷ 0 ∷ 2 ∷ []) ∷ (1 ∷ 2 ∷ 0 ∷ []) ∷ (2 ∷ 0 ∷ 1 ∷ []) ∷ (2 ∷ 1 ∷ 0 ∷ []) ∷ [])) }

abbrev case_89 : Case
case_89 = record { trees = ((r 1 (t 5 (98 ∷ []) (t 4 (99 ∷ []) o))) ∷ []); mapping = []; changes = (over_root ((1, []) ∷ []) true ∷ over [] 0 0 ((1, []) ∷ []) true ∷ over [] 1 1 [] false ∷ into [] 2 ((1, (0 ∷ [])) ∷ (1, (0 ∷ [])) ∷ []) ∷ over [] 1 1 ((1, []) ∷ []) true ∷ []); outcome = intersecting }

abbrev case_90 : Case
case_90 = record { trees = ((r 1 o) ∷ (r 2 (n 1 (n 2 (t 5 (98 ∷ []) (t 5 [] o)) (t 5 (195 ∷ 169 ∷ []) o)) (n 3 (n 2 (t 4 (101 ∷ []) (t 5 (102 ∷ []) o)) (n 2 (t 4 (103 ∷ []) o) (n 3 (t 4 (104 ∷ []) (t 4 (105 ∷ []) o)) o))) o))) ∷ (r 2 (n 2 (n 1 o (n 1 (t 5 (106 ∷ []) (t 5 (107 ∷ []) (t 4 (108 ∷ []) o))) o)) (n 1 o o))) ∷ []); mapping = (((2, (0 ∷ 0 ∷ [])), (3, (0 ∷ []))) ∷ ((1, []), (3, (1 ∷ []))) ∷ []); changes = (over_root ((1, []) ∷ []) true ∷ into [] 0 [] ∷ into [] 0 ((2, (1 ∷ 1 ∷ [])) ∷ []) ∷ []); outcome = accepted (n 1 (n 2 (t 4 (103 ∷ []) o) o) o) ([] ∷ []) ((1, []) ∷ (2, (1 ∷ 1 ∷ [])) ∷ (2, (1 ∷ 1 ∷ 0 ∷ [])) ∷ []) 3 (Some ((1 ∷ 2 ∷ 0 ∷ []) ∷ [])) }

abbrev case_91 : Case
case_91 = record { trees = ((r 1 o) ∷ (r 3 o) ∷ []); mapping = []; changes = (into [] 0 ((2, []) ∷ []) ∷ over_root ((2, []) ∷ []) true ∷ []); outcome = missing }

abbrev case_92 : Case
case_92 = record { trees = ((r 2 (t 4 (98 ∷ []) (t 4 (99 ∷ []) (n 1 o o)))) ∷ (r 1 (t 4 (100 ∷ []) (n 2 (t 4 (98 ∷ []) (t 4 (99 ∷ []) (n 1 o o))) o))) ∷ (r 1 (t 5 (101 ∷ []) (n 2 (t 5 (102 ∷ []) (t 4 (103 ∷ []) o)) (n 1 (t 4 (100 ∷ []) (n 2 (t 4 (98 ∷ []) (t 4 (99 ∷ []) (n 1 o o))) o)) o)))) ∷ []); mapping = (((1, []), (3, (1 ∷ []))) ∷ ((2, []), (3, (2 ∷ []))) ∷ []); changes = (over [] 1 1 [] true ∷ []); outcome = accepted (n 2 (t 4 (98 ∷ []) (n 1 o o)) o) [] ((1, []) ∷ (1, (0 ∷ [])) ∷ (1, (2 ∷ [])) ∷ []) 1 (Some ((0 ∷ []) ∷ [])) }

abbrev case_93 : Case
case_93 = record { trees = ((r 1 o) ∷ []); mapping = []; changes = []; outcome = accepted (n 1 o o) [] ((1, []) ∷ []) 0 (Some ([] ∷ [])) }

abbrev case_94 : Case
case_94 = record { trees = ((r 3 (t 4 (98 ∷ []) (n 3 (n 1 (n 1 o (t 4 (99 ∷ []) o)) (t 4 (100 ∷ []) o)) o))) ∷ (r 2 (n 1 o (n 3 (t 4 (98 ∷ []) (n 3 (n 1 (n 1 o (t 4 (99 ∷ []) o)) (t 4 (100 ∷ []) o)) o)) (n 1 o o)))) ∷ []); mapping = (((1, (1 ∷ 0 ∷ 0 ∷ [])), (2, (2 ∷ []))) ∷ ((1, []), (2, (1 ∷ []))) ∷ []); changes = (into (1 ∷ 0 ∷ []) 0 ((2, []) ∷ []) ∷ into (1 ∷ []) 1 ((2, []) ∷ (2, []) ∷ []) ∷ over (1 ∷ 0 ∷ []) 0 0 ((2, (1 ∷ 1 ∷ 0 ∷ 1 ∷ [])) ∷ []) false ∷ over (1 ∷ 0 ∷ []) 0 0 ((2, []) ∷ []) false ∷ over (1 ∷ 0 ∷ []) 0 0 [] true ∷ over (1 ∷ 0 ∷ []) 1 1 [] false ∷ []); outcome = intersecting }

abbrev case_95 : Case
case_95 = record { trees = ((r 1 (n 1 o (t 5 (98 ∷ []) (n 2 (n 1 o (t 4 (99 ∷ []) o)) o)))) ∷ (r 3 (t 4 [] (t 5 (101 ∷ []) o))) ∷ (r 1 (n 1 o (n 3 (t 4 [] (t 5 (101 ∷ []) o)) (n 1 o o)))) ∷ (r 3 o) ∷ (r 1 (n 3 (t 4 [] (t 5 (101 ∷ []) o)) (n 3 (n 1 (t 5 (102 ∷ []) (t 4 [] o)) o) o))) ∷ []); mapping = (((1, (2 ∷ 0 ∷ [])), (3, (2 ∷ []))) ∷ ((2, []), (5, (0 ∷ []))) ∷ []); changes = (over [] 2 2 [] false ∷ over [] 1 1 ((4, []) ∷ (5, []) ∷ []) false ∷ []); outcome = accepted (n 1 (n 1 o (n 3 o (n 1 (n 3 (t 4 [] (t 5 (101 ∷ []) o)) (n 3 (n 1 (t 5 (102 ∷ []) (t 4 [] o)) o) o)) o))) o) ((1 ∷ []) ∷ (2 ∷ []) ∷ []) ((1, []) ∷ (1, (0 ∷ [])) ∷ (4, []) ∷ (5, []) ∷ (5, (0 ∷ [])) ∷ (5, (0 ∷ 0 ∷ [])) ∷ (5, (0 ∷ 1 ∷ [])) ∷ (5, (1 ∷ [])) ∷ (5, (1 ∷ 0 ∷ [])) ∷ (5, (1 ∷ 0 ∷ 0 ∷ [])) ∷ (5, (1 ∷ 0 ∷ 1 ∷ [])) ∷ []) 2 (Some ((0 ∷ 1 ∷ []) ∷ (1 ∷ 0 ∷ []) ∷ [])) }

abbrev case_96 : Case
case_96 = record { trees = ((r 2 o) ∷ (r 3 (t 5 (102 ∷ []) (n 2 (t 4 (98 ∷ []) (n 1 (n 3 (t 4 (99 ∷ []) (t 4 (100 ∷ []) o)) o) (t 4 (101 ∷ []) o))) o))) ∷ []); mapping = []; changes = (over_root ((1, []) ∷ []) true ∷ []); outcome = accepted (n 2 o o) ([] ∷ []) ((1, []) ∷ []) 1 (Some ((0 ∷ []) ∷ [])) }

abbrev case_97 : Case
case_97 = record { trees = ((r 1 (t 5 (98 ∷ []) (t 4 [] o))) ∷ (r 2 (t 4 (103 ∷ []) (n 1 (n 3 (n 1 (t 5 (100 ∷ []) (t 5 (101 ∷ []) o)) (t 5 (102 ∷ []) o)) o) o))) ∷ (r 3 (n 1 (n 3 (t 4 (104 ∷ []) o) o) (n 2 (n 1 o (n 1 (t 5 (105 ∷ []) o) o)) o))) ∷ (r 1 (t 5 (106 ∷ []) (n 1 (t 5 (98 ∷ []) (t 4 [] o)) (t 5 (107 ∷ []) o)))) ∷ (r 3 (n 1 (t 5 (98 ∷ []) (t 4 [] o)) (n 3 o o))) ∷ []); mapping = (((2, (1 ∷ [])), (3, (0 ∷ []))) ∷ ((1, []), (4, (1 ∷ []))) ∷ ((3, (1 ∷ [])), (5, (1 ∷ []))) ∷ []); changes = (over [] 0 0 [] true ∷ over [] 1 1 ((5, (1 ∷ [])) ∷ []) true ∷ []); outcome = accepted (n 1 (n 3 o o) o) ((0 ∷ []) ∷ []) ((1, []) ∷ (5, (1 ∷ [])) ∷ []) 2 (Some ((0 ∷ 1 ∷ []) ∷ (1 ∷ 0 ∷ []) ∷ [])) }

abbrev case_98 : Case
case_98 = record { trees = ((r 1 (t 5 (98 ∷ []) (n 1 (n 1 (t 5 (99 ∷ []) (t 5 (195 ∷ 169 ∷ []) (t 4 [] o))) (n 3 (t 5 (102 ∷ []) o) o)) o))) ∷ (r 3 (t 4 [] (n 3 (t 4 (103 ∷ []) o) o))) ∷ []); mapping = []; changes = (over (1 ∷ 0 ∷ []) 1 1 ((1, (1 ∷ 0 ∷ 1 ∷ [])) ∷ []) true ∷ into (1 ∷ 0 ∷ []) 0 [] ∷ []); outcome = accepted (n 1 (t 5 (98 ∷ []) (n 1 (n 1 (t 5 (99 ∷ []) (t 5 (195 ∷ 169 ∷ []) (t 4 [] o))) (n 3 (t 5 (102 ∷ []) o) o)) o)) o) ((1 ∷ 0 ∷ 1 ∷ []) ∷ []) ((1, []) ∷ (1, (0 ∷ [])) ∷ (1, (1 ∷ [])) ∷ (1, (1 ∷ 0 ∷ [])) ∷ (1, (1 ∷ 0 ∷ 0 ∷ [])) ∷ (1, (1 ∷ 0 ∷ 1 ∷ [])) ∷ (1, (1 ∷ 0 ∷ 2 ∷ [])) ∷ (1, (1 ∷ 1 ∷ [])) ∷ (1, (1 ∷ 1 ∷ 0 ∷ [])) ∷ []) 2 (Some ((0 ∷ 1 ∷ []) ∷ (1 ∷ 0 ∷ []) ∷ [])) }

abbrev case_99 : Case
case_99 = record { trees = ((r 1 (n 1 (n 2 o o) o)) ∷ (r 3 o) ∷ []); mapping = []; changes = (over [] 0 0 ((1, (0 ∷ [])) ∷ []) true ∷ over_root ((1, []) ∷ []) true ∷ into (0 ∷ []) 0 ((2, []) ∷ (2, []) ∷ []) ∷ over (0 ∷ []) 0 0 ((2, []) ∷ (2, []) ∷ []) false ∷ []); outcome = accepted (n 1 (n 1 (n 3 o (n 3 o (n 3 o (n 3 o o)))) o) o) ([] ∷ []) ((1, []) ∷ (1, (0 ∷ [])) ∷ (2, []) ∷ (2, []) ∷ (2, []) ∷ (2, []) ∷ []) 4 (Some ((2 ∷ 3 ∷ 0 ∷ 1 ∷ []) ∷ (3 ∷ 2 ∷ 0 ∷ 1 ∷ []) ∷ [])) }

abbrev case_100 : Case
case_100 = record { trees = ((r 2 (n 3 o o)) ∷ (r 3 (t 5 (98 ∷ []) (n 1 o o))) ∷ []); mapping = []; changes = (over_root ((2, (1 ∷ [])) ∷ []) true ∷ into [] 1 ((2, []) ∷ []) ∷ []); outcome = missing }

abbrev case_101 : Case
case_101 = record { trees = ((r 1 (t 5 (98 ∷ []) o)) ∷ (r 2 (n 1 (t 5 (98 ∷ []) o) o)) ∷ (r 2 (n 1 (t 5 (98 ∷ []) o) (n 2 (n 1 (t 5 (98 ∷ []) o) o) (n 2 (n 3 (t 5 (99 ∷ []) (t 5 (195 ∷ 169 ∷ []) o)) (n 1 (t 4 (101 ∷ []) (t 4 (102 ∷ []) o)) o)) o)))) ∷ (r 2 (n 1 (t 5 (98 ∷ []) o) (t 4 (103 ∷ []) (n 1 (t 5 (98 ∷ []) o) o)))) ∷ []); mapping = (((1, []), (3, (0 ∷ []))) ∷ ((2, []), (3, (1 ∷ []))) ∷ []); changes = (over [] 0 0 ((3, (1 ∷ 0 ∷ 0 ∷ [])) ∷ []) true ∷ []); outcome = accepted (n 1 (t 5 (98 ∷ []) o) o) ((0 ∷ []) ∷ []) ((1, []) ∷ (3, (1 ∷ 0 ∷ 0 ∷ [])) ∷ []) 1 (Some ((0 ∷ []) ∷ [])) }

abbrev case_102 : Case
case_102 = record { trees = ((r 1 (t 5 (98 ∷ []) (n 1 o o))) ∷ (r 2 o) ∷ (r 2 o) ∷ (r 3 (t 4 (99 ∷ []) (n 3 (n 2 o o) o))) ∷ []); mapping = (((2, []), (4, (1 ∷ []))) ∷ ((3, []), (4, (1 ∷ 0 ∷ []))) ∷ []); changes = (over [] 1 1 [] false ∷ []); outcome = accepted (n 1 (t 5 (98 ∷ []) o) o) [] ((1, []) ∷ (1, (0 ∷ [])) ∷ []) 1 (Some ((0 ∷ []) ∷ [])) }

abbrev case_103 : Case
case_103 = record { trees = ((r 2 (t 4 (98 ∷ []) (n 3 (n 1 (t 4 (99 ∷ []) (t 4 (100 ∷ []) o)) (n 3 (t 5 (101 ∷ []) (t 4 (102 ∷ []) o)) o)) o))) ∷ (r 3 o) ∷ []); mapping = []; changes = (over [] 1 1 ((2, []) ∷ []) true ∷ into (1 ∷ 1 ∷ []) 0 ((2, []) ∷ (2, []) ∷ []) ∷ []); outcome = missing }

abbrev case_104 : Case
case_104 = record { trees = ((r 3 (n 3 o (n 2 (t 4 (98 ∷ []) (t 4 (99 ∷ []) (t 4 (100 ∷ []) o))) (n 1 (t 5 (101 ∷ []) (t 4 (102 ∷ []) o)) o)))) ∷ (r 1 (n 2 o o)) ∷ (r 3 (t 5 (104 ∷ []) (n 2 (t 4 [] o) o))) ∷ (r 1 (t 4 (105 ∷ []) (n 2 (n 1 (n 2 o o) (n 2 (t 4 (98 ∷ []) (t 4 (99 ∷ []) (t 4 (100 ∷ []) o))) (n 1 (n 2 o o) o))) o))) ∷ []); mapping = (((1, (0 ∷ [])), (2, (0 ∷ []))) ∷ ((1, []), (3, (1 ∷ []))) ∷ ((2, []), (4, (1 ∷ 0 ∷ []))) ∷ ((1, (1 ∷ [])), (4, (1 ∷ 1 ∷ []))) ∷ []); changes = (over (2 ∷ []) 0 0 ((2, []) ∷ []) true ∷ over [] 1 1 ((4, (1 ∷ 2 ∷ [])) ∷ []) true ∷ over (1 ∷ []) 0 1 [] false ∷ over [] 0 0 [] true ∷ over [] 2 2 ((4, (1 ∷ 2 ∷ [])) ∷ []) false ∷ []); outcome = missing }

abbrev case_105 : Case
case_105 = record { trees = ((r 1 o) ∷ []); mapping = []; changes = (into [] 0 ((1, []) ∷ (1, []) ∷ []) ∷ over_root ((1, []) ∷ []) true ∷ []); outcome = accepted (n 1 (n 1 o (n 1 o o)) o) ([] ∷ []) ((1, []) ∷ (1, []) ∷ (1, []) ∷ []) 2 (Some ((0 ∷ 1 ∷ []) ∷ [])) }

abbrev case_106 : Case
case_106 = record { trees = ((r 3 o) ∷ (r 2 (n 3 o (n 3 o (n 3 o o)))) ∷ []); mapping = (((1, []), (2, (2 ∷ []))) ∷ []); changes = (into [] 0 [] ∷ []); outcome = accepted (n 3 o o) [] ((1, []) ∷ []) 1 (Some ((0 ∷ []) ∷ [])) }

abbrev case_107 : Case
case_107 = record { trees = ((r 3 o) ∷ (r 1 (t 5 [] (n 3 o o))) ∷ []); mapping = (((1, []), (2, (1 ∷ []))) ∷ []); changes = (over_root ((1, []) ∷ []) true ∷ []); outcome = accepted (n 3 o o) ([] ∷ []) ((1, []) ∷ []) 1 (Some ((0 ∷ []) ∷ [])) }

abbrev case_108 : Case
case_108 = record { trees = ((r 3 (n 3 o (n 2 o o))) ∷ (r 1 (t 4 (98 ∷ []) (n 1 (n 2 o o) o))) ∷ (r 1 (t 5 (195 ∷ 169 ∷ []) (n 3 (n 2 o o) o))) ∷ (r 1 (t 4 (104 ∷ []) (n 3 (t 5 [] (n 2 o (n 1 (n 3 (t 5 [] o) (n 1 (t 4 (102 ∷ []) (t 4 (103 ∷ []) o)) o)) o))) o))) ∷ []); mapping = (((1, (1 ∷ [])), (4, (1 ∷ 1 ∷ []))) ∷ ((2, (1 ∷ [])), (4, (1 ∷ 2 ∷ []))) ∷ []); changes = (over [] 0 0 [] false ∷ over [] 1 1 ((4, (1 ∷ 2 ∷ 1 ∷ [])) ∷ []) true ∷ []); outcome = accepted (n 3 (n 1 (t 4 (102 ∷ []) (t 4 (103 ∷ []) o)) o) o) ((0 ∷ []) ∷ []) ((1, []) ∷ (4, (1 ∷ 2 ∷ 1 ∷ [])) ∷ (4, (1 ∷ 2 ∷ 1 ∷ 0 ∷ [])) ∷ (4, (1 ∷ 2 ∷ 1 ∷ 1 ∷ [])) ∷ []) 2 (Some ((0 ∷ 1 ∷ []) ∷ (1 ∷ 0 ∷ []) ∷ [])) }

abbrev case_109 : Case
case_109 = record { trees = ((r 3 (t 5 (98 ∷ []) o)) ∷ (r 2 (t 4 (100 ∷ []) (n 1 (t 5 (99 ∷ []) (n 3 (t 5 (98 ∷ []) o) o)) o))) ∷ (r 2 (t 5 (101 ∷ []) (n 1 (t 5 (99 ∷ []) (n 3 (t 5 (98 ∷ []) o) o)) o))) ∷ (r 1 (t 5 [] (n 2 (n 1 (t 5 (99 ∷ []) (n 3 (t 5 (98 ∷ []) o) o)) (n 3 (t 5 (98 ∷ []) o) o)) o))) ∷ []); mapping = (((1, []), (4, (1 ∷ 1 ∷ []))) ∷ ((3, (1 ∷ 1 ∷ [])), (4, (1 ∷ []))) ∷ ((2, (1 ∷ [])), (4, (1 ∷ 0 ∷ []))) ∷ []); changes = (over [] 0 0 ((4, []) ∷ []) true ∷ into [] 1 ((4, (1 ∷ 0 ∷ 0 ∷ [])) ∷ []) ∷ over [] 0 0 [] false ∷ []); outcome = intersecting }

abbrev case_110 : Case
case_110 = record { trees = ((r 2 (t 4 (98 ∷ []) o)) ∷ (r 3 o) ∷ []); mapping = []; changes = (over [] 0 0 ((1, (0 ∷ [])) ∷ []) true ∷ over_root ((2, []) ∷ []) true ∷ []); outcome = missing }

abbrev case_111 : Case
case_111 = record { trees = ((r 1 o) ∷ (r 2 (n 1 o o)) ∷ (r 1 (n 2 (n 1 o o) o)) ∷ (r 1 (n 1 (n 1 (t 4 (98 ∷ []) (t 5 (99 ∷ []) (t 4 (100 ∷ []) o))) o) (n 1 o (n 1 o o)))) ∷ (r 3 (t 5 (101 ∷ []) (n 3 o o))) ∷ []); mapping = (((1, []), (4, (2 ∷ []))) ∷ ((3, []), (4, (0 ∷ []))) ∷ []); changes = (over_root ((1, []) ∷ []) true ∷ []); outcome = accepted (n 1 o o) ([] ∷ []) ((1, []) ∷ []) 1 (Some ((0 ∷ []) ∷ [])) }

abbrev case_112 : Case
case_112 = record { trees = ((r 3 (n 1 (t 5 (98 ∷ []) o) o)) ∷ []); mapping = []; changes = (over [] 0 0 ((1, (0 ∷ [])) ∷ []) true ∷ over_root ((1, []) ∷ []) true ∷ []); outcome = accepted (n 3 (n 1 (t 5 (98 ∷ []) o) o) o) ([] ∷ []) ((1, []) ∷ (1, (0 ∷ [])) ∷ (1, (0 ∷ 0 ∷ [])) ∷ []) 2 (Some ((0 ∷ 1 ∷ []) ∷ [])) }

abbrev case_113 : Case
case_113 = record { trees = ((r 2 (t 5 (98 ∷ []) (n 2 (t 5 (99 ∷ []) (t 4 [] (t 4 (101 ∷ []) o))) o))) ∷ (r 2 (t 5 (107 ∷ []) (n 3 (t 4 [] (n 1 (t 5 (103 ∷ []) (n 2 (t 5 [] (t 5 (105 ∷ []) (t 4 (106 ∷ []) o))) o)) o)) o))) ∷ []); mapping = (((1, (1 ∷ [])), (2, (1 ∷ []))) ∷ []); changes = (into (1 ∷ []) 0 [] ∷ over (1 ∷ []) 0 0 ((2, []) ∷ []) true ∷ []); outcome = accepted (n 2 (t 5 (98 ∷ []) (n 2 (n 2 (t 5 (107 ∷ []) (n 3 (t 4 [] (n 1 (t 5 (103 ∷ []) (n 2 (t 5 [] (t 5 (105 ∷ []) (t 4 (106 ∷ []) o))) o)) o)) o)) (t 4 [] (t 4 (101 ∷ []) o))) o)) o) ((1 ∷ 0 ∷ []) ∷ []) ((1, []) ∷ (1, (0 ∷ [])) ∷ (1, (1 ∷ [])) ∷ (2, []) ∷ (2, (0 ∷ [])) ∷ (2, (1 ∷ [])) ∷ (2, (1 ∷ 0 ∷ [])) ∷ (2, (1 ∷ 1 ∷ [])) ∷ (2, (1 ∷ 1 ∷ 0 ∷ [])) ∷ (2, (1 ∷ 1 ∷ 1 ∷ [])) ∷ (2, (1 ∷ 1 ∷ 1 ∷ 0 ∷ [])) ∷ (2, (1 ∷ 1 ∷ 1 ∷ 1 ∷ [])) ∷ (2, (1 ∷ 1 ∷ 1 ∷ 2 ∷ [])) ∷ (1, (1 ∷ 1 ∷ [])) ∷ (1, (1 ∷ 2 ∷ [])) ∷ []) 2 (Some ((0 ∷ 1 ∷ []) ∷ (1 ∷ 0 ∷ []) ∷ [])) }

abbrev case_114 : Case
case_114 = record { trees = ((r 2 (n 2 (t 4 [] o) (t 4 (99 ∷ []) o))) ∷ (r 3 (t 5 [] (n 1 o o))) ∷ (r 3 (n 2 (t 4 [] o) o)) ∷ (r 3 o) ∷ []); mapping = (((1, (0 ∷ [])), (3, (0 ∷ []))) ∷ []); changes = (into [] 0 ((4, []) ∷ []) ∷ over [] 0 0 ((1, (0 ∷ 0 ∷ [])) ∷ []) true ∷ []); outcome = accepted (n 2 (n 3 o (t 4 [] (t 4 (99 ∷ []) o))) o) ((0 ∷ []) ∷ (1 ∷ []) ∷ []) ((1, []) ∷ (4, []) ∷ (1, (0 ∷ 0 ∷ [])) ∷ (1, (1 ∷ [])) ∷ []) 2 (Some ((0 ∷ 1 ∷ []) ∷ (1 ∷ 0 ∷ []) ∷ [])) }

abbrev case_115 : Case
case_115 = record { trees = ((r 3 (t 5 [] o)) ∷ (r 3 (n 3 (t 5 [] o) o)) ∷ []); mapping = (((1, []), (2, (0 ∷ []))) ∷ []); changes = (over_root ((2, (0 ∷ [])) ∷ []) true ∷ []); outcome = accepted (n 3 (t 5 [] o) o) ([] ∷ []) ((2, (0 ∷ [])) ∷ (2, (0 ∷ 0 ∷ [])) ∷ []) 1 (Some ((0 ∷ []) ∷ [])) }

abbrev case_116 : Case
case_116 = record { trees = ((r 1 o) ∷ (r 1 o) ∷ []); mapping = []; changes = (over_root ((2, []) ∷ []) true ∷ into [] 0 ((2, []) ∷ []) ∷ []); outcome = missing }

abbrev case_117 : Case
case_117 = record { trees = ((r 2 (t 4 [] o)) ∷ []); mapping = []; changes = (over [] 0 0 ((1, []) ∷ []) true ∷ into [] 0 ((1, (0 ∷ [])) ∷ []) ∷ []); outcome = accepted (n 2 (t 4 [] (n 2 (t 4 [] o) o)) o) ((0 ∷ []) ∷ (1 ∷ []) ∷ []) ((1, []) ∷ (1, (0 ∷ [])) ∷ (1, []) ∷ (1, (0 ∷ [])) ∷ []) 2 (Some ((0 ∷ 1 ∷ []) ∷ (1 ∷ 0 ∷ []) ∷ [])) }

abbrev case_118 : Case
case_118 = record { trees = ((r 1 o) ∷ (r 2 o) ∷ (r 2 (t 5 (195 ∷ 169 ∷ []) (n 1 (n 1 o (n 2 o (t 5 (98 ∷ []) o))) o))) ∷ []); mapping = (((1, []), (3, (1 ∷ 0 ∷ []))) ∷ ((2, []), (3, (1 ∷ 1 ∷ []))) ∷ []); changes = (into [] 0 ((3, (1 ∷ [])) ∷ (1, []) ∷ []) ∷ over_root ((1, []) ∷ []) true ∷ []); outcome = accepted (n 1 (n 1 (n 1 o (n 2 o (t 5 (98 ∷ []) o))) (n 1 o o)) o) ([] ∷ []) ((1, []) ∷ (3, (1 ∷ [])) ∷ (3, (1 ∷ 0 ∷ [])) ∷ (3, (1 ∷ 1 ∷ [])) ∷ (3, (1 ∷ 2 ∷ [])) ∷ (1, []) ∷ []) 2 (Some ((0 ∷ 1 ∷ []) ∷ [])) }

abbrev case_119 : Case
case_119 = record { trees = ((r 1 (t 4 [] (n 2 o (n 2 (n 3 o (n 1 (t 4 [] (t 5 (100 ∷ []) (t 4 (101 ∷ []) o))) (n 3 (t 4 (102 ∷ []) o) o))) o)))) ∷ (r 3 (n 2 (n 3 o (n 1 (t 4 [] (t 5 (100 ∷ []) (t 4 (101 ∷ []) o))) (n 3 (t 4 (102 ∷ []) o) o))) (n 3 (t 4 (102 ∷ []) o) o))) ∷ (r 3 (t 4 (103 ∷ []) (n 2 (n 1 (t 4 [] (n 2 o (n 2 (n 3 o (n 1 (t 4 [] (t 5 (100 ∷ []) (t 4 (101 ∷ []) o))) (n 3 (t 4 (102 ∷ []) o) o))) o))) o) o))) ∷ []); mapping = (((1, (2 ∷ [])), (2, (0 ∷ []))) ∷ ((1, (2 ∷ 2 ∷ [])), (2, (1 ∷ []))) ∷ []); changes = (over [] 0 0 [] true ∷ over (2 ∷ 1 ∷ []) 0 0 ((3, []) ∷ []) true ∷ over (2 ∷ 1 ∷ []) 0 2 [] false ∷ over [] 2 2 ((3, (1 ∷ 0 ∷ 2 ∷ 2 ∷ [])) ∷ []) true ∷ []); outcome = intersecting }

abbrev pub cases : List Case
cases = case_0 ∷ case_1 ∷ case_2 ∷ case_3 ∷ case_4 ∷ case_5 ∷ case_6 ∷ case_7 ∷ case_8 ∷ case_9 ∷ case_10 ∷ case_11 ∷ case_12 ∷ case_13 ∷ case_14 ∷ case_15 ∷ case_16 ∷ case_17 ∷ case_18 ∷ case_19 ∷ case_20 ∷ case_21 ∷ case_22 ∷ case_23 ∷ case_24 ∷ case_25 ∷ case_26 ∷ case_27 ∷ case_28 ∷ case_29 ∷ case_30 ∷ case_31 ∷ case_32 ∷ case_33 ∷ case_34 ∷ case_35 ∷ case_36 ∷ case_37 ∷ case_38 ∷ case_39 ∷ case_40 ∷ case_41 ∷ case_42 ∷ case_43 ∷ case_44 ∷ case_45 ∷ case_46 ∷ case_47 ∷ case_48 ∷ case_49 ∷ case_50 ∷ case_51 ∷ case_52 ∷ case_53 ∷ case_54 ∷ case_55 ∷ case_56 ∷ case_57 ∷ case_58 ∷ case_59 ∷ case_60 ∷ case_61 ∷ case_62 ∷ case_63 ∷ case_64 ∷ case_65 ∷ case_66 ∷ case_67 ∷ case_68 ∷ case_69 ∷ case_70 ∷ case_71 ∷ case_72 ∷ case_73 ∷ case_74 ∷ case_75 ∷ case_76 ∷ case_77 ∷ case_78 ∷ case_79 ∷ case_80 ∷ case_81 ∷ case_82 ∷ case_83 ∷ case_84 ∷ case_85 ∷ case_86 ∷ case_87 ∷ case_88 ∷ case_89 ∷ case_90 ∷ case_91 ∷ case_92 ∷ case_93 ∷ case_94 ∷ case_95 ∷ case_96 ∷ case_97 ∷ case_98 ∷ case_99 ∷ case_100 ∷ case_101 ∷ case_102 ∷ case_103 ∷ case_104 ∷ case_105 ∷ case_106 ∷ case_107 ∷ case_108 ∷ case_109 ∷ case_110 ∷ case_111 ∷ case_112 ∷ case_113 ∷ case_114 ∷ case_115 ∷ case_116 ∷ case_117 ∷ case_118 ∷ case_119 ∷ []
