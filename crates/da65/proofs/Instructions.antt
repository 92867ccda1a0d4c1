-- An instruction as text: its operands, its mode, and the bytes that the text gives.
pub mod WrittenLaws
pub mod ValueLaws
pub mod WorthLaws
pub mod OperandLaws
pub mod ModeLaws
