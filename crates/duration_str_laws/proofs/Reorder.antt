use Rattle.duration_str_laws.proofs.Common.{[], arith, cases_Bool, cond-true, eq-eqb, eqb-true, find, if◌then◌else◌, List, map, refl, Reorder, Some, sum_by, sum_by-cons, sum_of, Term, times_in, value_of_term, ℕ, ◌+◌, ◌==◌, ◌∷◌, ◌≡◌, ◌≤◌}
use Rattle.std.specs.Set.{remove_key}
use Rattle.std.proofs.lemmas.Map.Made.{sum_by-remove_key}
use Rattle.duration_str_reading.proofs.Sentences.AnswerLemmas.{read_below, read_sum, sum_read}

abbrev is_times : ℕ → ℕ → ℕ
is_times n x = if x == n then 1 else 0

times_sum : (n : ℕ) (xs : List ℕ) → times_in n xs ≡ sum_by (is_times n) xs
times_sum n [] = refl
times_sum n (x ∷ xs) = rw (sum_by-cons (is_times n) x xs, times_sum n xs)

found : (n : ℕ) (xs : List ℕ) → 1 ≤ times_in n xs → find (λ x. x == n) xs ≡ Some n
found n [] h = absurd (omega arith)
found n (x ∷ xs) h = grind (arith, cases_Bool, eqb-true, found n xs)

one_taken : (f : ℕ → ℕ) (n : ℕ) (xs : List ℕ) → 1 ≤ times_in n xs
    → sum_by f xs ≡ f n + sum_by f (remove_key (λ x. x == n) xs)
one_taken f n xs h = let taken = rw (found n xs h) at (sum_by-remove_key f (λ x. x == n) xs) in omega arith

is_times_one : (n : ℕ) → is_times n n ≡ 1
is_times_one n = cond-true (n == n) 1 0 (eq-eqb n n refl)

abbrev total : List ℕ → ℕ
total ns = sum_by (λ n. n) ns

same_total : (xs ys : List ℕ) → ((n : ℕ) → times_in n xs ≡ times_in n ys) → total xs ≡ total ys
same_total [] [] h = refl
same_total [] (y ∷ ys) h = let count : 0 ≡ is_times y y + times_in y ys = h y in absurd (omega (arith, is_times_one y))
same_total (x ∷ xs) ys h =
    let others = remove_key (λ y. y == x) ys in
    let count : is_times x x + times_in x xs ≡ times_in x ys = h x in
    let there : 1 ≤ times_in x ys = omega (arith, is_times_one x) in
    let counts : (n : ℕ) → times_in n xs ≡ times_in n others = λ n.
    let both : is_times n x + times_in n xs ≡ times_in n ys = h n in
    omega (arith, one_taken (is_times n) x ys there, times_sum n ys, times_sum n others) in
    omega (arith, sum_by-cons (λ n. n) x xs, same_total xs others counts, one_taken (λ n. n) x ys there)

sum_total : (terms : List Term) → sum_of terms ≡ total (map value_of_term terms)
sum_total [] = refl
sum_total (t ∷ terms) = rw (sum_by-cons (λ n. n) (value_of_term t) (map value_of_term terms), sum_total terms)

pub reorder_holds : Reorder
reorder_holds default_unit o a b lexemes others nanos s t plus other_plus counts read =
    grind (arith, same_total, sum_total, read_sum, sum_read, read_below)
