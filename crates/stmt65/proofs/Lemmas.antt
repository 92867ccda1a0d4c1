-- The lemmas of std and of the crates below that these proofs cite, from one place.
pub use Rattle.isa65.proofs.CpuNames.{cpu_name}
pub use Rattle.isa65.proofs.Finding.{find-passes}
pub use Rattle.isa65.proofs.MnemonicLaws.{lowercase-text_of, mnemonic_named-is}
pub use Rattle.std.proofs.Common.{◌%◌, ◌*◌, ◌+◌, ◌++◌, ◌-◌, ◌/◌, ◌<◌, Bool, List, None, Option, Some, [], add-one, ap, append_assoc, arith, cond, drop, eqb, false, get_or, inl, inr, length, length-append, ltb, map, min, refl, replicate, reverse, subst, suc, sym, take, true, zero, ℕ, ◌∙◌, ◌∷◌, ◌≡◌, ◌≢◌, ◌≤◌}
pub use Rattle.std.proofs.Math.Nat.{suc-mul}
pub use Rattle.std.proofs.lemmas.Bool.{and_parts, eq-eqb, eqb-true, lt-ltb, ltb-true, ne_eqb, not-true, or_parts}
pub use Rattle.std.proofs.lemmas.Bool.Decides.{Decides-and, nat_tests}
pub use Rattle.std.proofs.lemmas.Fmt.{decimal_is_IsNumeral, decimal_nonempty}
pub use Rattle.std.proofs.lemmas.Grind.{flat_map-append}
pub use Rattle.std.proofs.lemmas.Int.Digits.{digits_value_push}
pub use Rattle.std.proofs.lemmas.List.{append-nil, drop-append-le, drop-drop, drop_at, length-drop, length-replicate, length-reverse, length-take, length-take-le, map-append, map-id, reverse-append, take-append-drop, take-append-le, take_at, take_more, take_rest}
pub use Rattle.std.proofs.lemmas.List.Elements.{All-cons, All-head, All-tail}
pub use Rattle.std.proofs.lemmas.List.Folds.{list_all-append, prefix_len-append}
pub use Rattle.std.proofs.lemmas.List.Sums.{prefix_len-le-length}
pub use Rattle.std.proofs.lemmas.Option.{same_Some}
pub use Rattle.std.proofs.lemmas.Slice.Eq.{bytes_eq-Decides}
pub use Rattle.std.proofs.lemmas.Str.Parse.{digit_from_value}
pub use denote.Enum.Bare.{same_true, sameb}
