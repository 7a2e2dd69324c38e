-- What readers must believe: Text, and Window, what it is to write a text through a window.
pub mod Text
pub mod Window
